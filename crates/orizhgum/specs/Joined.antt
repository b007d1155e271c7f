-- What the C interface answers of a join.
use Rattle.std.specs.Prelude.{ℕ, ◌≡◌}
use Rattle.wire.specs.Number.{answer_number}
use Rattle.seats.specs.Arrays.{Arrays}
use Rattle.joins.specs.Join.{Histories, Holds, Outcome, join}

-- C13: a join's answer, and the arrays of the first tracker behind it
pub record JoinAnswer : Type 0 where
  pub answer : ℕ
  pub next : Arrays

abbrev pub join_replied : ℕ → Arrays → JoinAnswer
join_replied answer a = record { answer = answer; next = a }

-- C1, C13: what a join is answered from C
abbrev pub join_answer : Outcome → JoinAnswer
join_answer o = join_replied (answer_number o.said) o.next

-- T14, C13: so it is for all histories that the two hold
abbrev pub JoinsFromC : Arrays → Arrays → JoinAnswer → Type 0
JoinsFromC a b r = (g h : Histories) → Holds a g → Holds b h → r ≡ join_answer (join a b g h)
