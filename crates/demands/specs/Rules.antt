-- What demand 1 says of an answer: a list of refusals in their order, and what the answer is by it.
-- Assumes nothing.
use Rattle.std.specs.Prelude.{ℕ, ◌≡◌, ◌↔◌, List, [], ◌∷◌}
use Rattle.wire.specs.Answer.{Answer, accepted, refused}

-- a refusal's number, the values that go with it, and when it is given
pub record Rule : Type 1 where
  pub number : ℕ
  pub values : List ℕ
  pub when : Type 0

-- J6: a refusal's number, given where a condition holds, without a value
infix 70 ◌if◌
abbrev pub ◌if◌ : ℕ → Type 0 → Rule
n if c = record { number = n; values = []; when = c }

-- F8: the same with how many bytes are missing
infix 70 ◌lacking◌provided◌
abbrev pub ◌lacking◌provided◌ : ℕ → ℕ → Type 0 → Rule
n lacking m provided c = record { number = n; values = m ∷ []; when = c }

-- D12: the answer is the refusal of the first rule whose condition holds, with its values, and a success exactly where none does
pub data Judged {A : Type 0} : List Rule → Answer A → Type 1 where
  success : {x : A} → Judged [] (accepted x)
  here : {r : Rule} {rs : List Rule} → r.when → Judged (r ∷ rs) (refused r.number r.values)
  later : {r : Rule} {rs : List Rule} {a : Answer A} → (r.when → ⊥) → Judged rs a → Judged (r ∷ rs) a

-- A2, Q3, T13, J8: judged by the rules; and of what they accept, "no such entry", "nothing missing" or "before start" exactly where its condition
-- holds. Where a refusal is judged behind such an answer, as 6 and 9 are, the refusal's own condition leaves the answer's cases out
pub record OrNone {A : Type 0} (rules : List Rule) (none : A) (when : Type 0) (answer : Answer A) : Type 1 where
  pub judged : Judged rules answer
  pub none_when : (x : A) → answer ≡ accepted x → (x ≡ none) ↔ when

-- J6, D12: judged by the rules, and on a refusal what is given back is as it stood
pub record Kept {A S : Type 0} (rules : List Rule) (answer : Answer A) (stood given : S) : Type 1 where
  pub judged : Judged rules answer
  pub same : (n : ℕ) (vs : List ℕ) → answer ≡ refused n vs → given ≡ stood

-- every answer that the call can give
abbrev pub Every : {R A : Type 0} → (R → A) → (R → Type 0) → (A → Type 1) → Type 1
Every {R} {A} means Can says = (r : R) → Can r → says (means r)
