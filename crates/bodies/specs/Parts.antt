-- What the code of one type judges and stores.
-- Assumes nothing.
use Rattle.std.specs.Prelude.{ℕ, cond, List, [], eqb, ℤ, length}
use Rattle.wire.specs.Answer.{Answer}
use Rattle.layout.specs.Layout.{Message, fields, size}
use Rattle.layout.specs.Group.{verdict}
use Rattle.record.specs.Record.{Reading, known, unknown}
use Rattle.record.specs.Paper.{means_record}
use Rattle.record.specs.declared.Record.{Record}
use Rattle.bodies.specs.Body.{encode, text_size, exact, all_in}

-- the numbers of a record, in its layout's order
abbrev pub numbers_read : Reading → List ℤ
numbers_read (known m zs) = zs
numbers_read (unknown type) = []

-- the same of the code's record
abbrev pub numbers_of : Record → List ℤ
numbers_of r = numbers_read (means_record r)

-- R4, R5, J3: 4 for texts or groups that are not just the type's, then 5
unfoldable pub verdict_of : Message → List ℤ → List ℕ → List ℕ → Answer Unit
verdict_of m zs ts gs = verdict (exact m zs ts gs) (all_in m zs gs)

-- W2: what an output holds for the fields alone: the fields, where texts and output have just their lengths; else it stays as it stood
unfoldable pub put_fields : Message → List ℤ → List ℕ → List ℕ → List ℕ
put_fields m zs ts out =
    cond (eqb (length ts) (text_size (fields m))) (cond (eqb (length out) (size (fields m))) (encode (fields m) zs ts) out) out
