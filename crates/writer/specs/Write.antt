-- How a record, texts and groups are judged, and what the output holds then.
-- Assumes nothing.
use Rattle.std.specs.Prelude.{ℕ, ◌+◌, not, List, [], ◌++◌, ltb, ℤ, length}
use Rattle.wire.specs.Answer.{Answer, accepted, refused, guard}
use Rattle.wire.specs.Bytes.{digits, checksum_of, splice}
use Rattle.wire.specs.Refusal.{too_long, not_its_layout, out_of_range, output_short}
use Rattle.frame.specs.Framing.{header_width, sum_width, body_limit}
use Rattle.layout.specs.Layout.{Message, type_number}
use Rattle.record.specs.Record.{Reading, known, unknown}
use Rattle.bodies.specs.Body.{body, body_length, exact, all_in}

-- F2: the header, type and body length
unfoldable pub header : ℕ → ℕ → List ℕ
header type l = digits 4 type ++ digits 4 l

-- F4: header and body, and their sum behind them
unfoldable pub with_sum : List ℕ → List ℕ
with_sum s = s ++ digits sum_width (checksum_of s)

-- F2: the frame of a body
abbrev pub frame_of : ℕ → List ℕ → List ℕ
frame_of type b = with_sum (header type (length b) ++ b)

-- F2: how many bytes it has
abbrev pub frame_length : ℕ → ℕ
frame_length l = header_width + l + sum_width

-- R2, R6: a body of l bytes, for an output of room bytes
abbrev pub room_for_frame : ℕ → ℕ → Answer ℕ
room_for_frame l room =
    guard (ltb body_limit l) (refused too_long [])
    (guard (ltb room (frame_length l)) (refused output_short []) (accepted (frame_length l)))

-- J3: 4, 5, 2, 6, of a listed type
unfoldable pub write_known : Message → List ℤ → List ℕ → List ℕ → ℕ → Answer ℕ
write_known m zs ts gs room =
    guard (not (exact m zs ts gs)) (refused not_its_layout [])
    (guard (not (all_in m zs gs)) (refused out_of_range []) (room_for_frame (body_length m gs) room))

-- W3, J3: a type that is not listed is refused before all else
abbrev pub write_judged : Reading → List ℕ → List ℕ → ℕ → Answer ℕ
write_judged (known m zs) ts gs room = write_known m zs ts gs room
write_judged (unknown type) ts gs room = refused out_of_range []

-- W2: exactly the bytes of the frame change, at the start of the output
abbrev pub frame_in : Reading → List ℕ → List ℕ → List ℕ → List ℕ
frame_in (known m zs) ts gs out = splice out 0 (frame_of (type_number m) (body m zs ts gs))
frame_in (unknown type) ts gs out = out

-- J6: a refusal changes no byte
abbrev pub output_written : Answer ℕ → Reading → List ℕ → List ℕ → List ℕ → List ℕ
output_written (accepted n) r ts gs out = frame_in r ts gs out
output_written (refused n vs) r ts gs out = out

-- W2, J3: what the writer answers: how many bytes it wrote, or a refusal
unfoldable pub write : Reading → List ℕ → List ℕ → List ℕ → Answer ℕ
write r ts gs out = write_judged r ts gs (length out)

-- W2: what the output holds then
unfoldable pub write_leaves : Reading → List ℕ → List ℕ → List ℕ → List ℕ
write_leaves r ts gs out = output_written (write_judged r ts gs (length out)) r ts gs out
