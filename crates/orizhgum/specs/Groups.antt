-- What the C interface answers of a group.
-- Assumes nothing.
use Rattle.std.specs.Prelude.{ℕ, List, [], ◌∷◌, ℤ, nat_abs}
use Rattle.wire.specs.Answer.{Answer, accepted, refused}
use Rattle.record.specs.Asked.{WithTexts, Asked, found, no_such_entry}
use Rattle.wire.specs.Number.{plain, no_such_entry_number}
use Rattle.orizhgum.specs.declared.groups.Grouped.{Grouped}

-- C5: a group of 390090 has one number, a group of 390013 two
abbrev pub numbered : List ℤ → List ℕ → Grouped
numbered [] ts =
    record { answer = plain; stock_number = 0; switch_type = 0; yes_no = 0; texts = ts }
numbered (x ∷ []) ts =
    record { answer = plain; stock_number = nat_abs x; switch_type = 0; yes_no = 0; texts = ts }
numbered (x ∷ (y ∷ vs)) ts =
    record { answer = plain; stock_number = 0; switch_type = nat_abs x; yes_no = nat_abs y; texts = ts }

-- C5: without a group, the answer's number and zeros
abbrev pub without : ℕ → List ℕ → Grouped
without n ts = record { answer = n; stock_number = 0; switch_type = 0; yes_no = 0; texts = ts }

-- C5: by the answer
abbrev pub group_with : Answer (Asked (List ℤ)) → List ℕ → Grouped
group_with (accepted (found vs)) ts = numbered vs ts
group_with (accepted no_such_entry) ts = without no_such_entry_number ts
group_with (refused n vs) ts = without n ts

-- C5: a group by position
unfoldable pub group_answer : WithTexts (Asked (List ℤ)) → Grouped
group_answer t = group_with t.answer t.texts
