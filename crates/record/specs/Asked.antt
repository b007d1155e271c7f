-- Answers with the texts that go with them, and what is asked for by position.
-- Assumes nothing.
use Rattle.std.specs.Prelude.{ℕ, zero, suc, ◌-◌, cond, List, [], ◌∷◌, ◌++◌, ltb, length}
use Rattle.wire.specs.Answer.{Answer, accepted, refused}
use Rattle.layout.specs.Layout.{Listed, listed, unlisted, named}
use Rattle.layout.specs.Group.{judge_body}

-- L8: the most bytes that the texts of one record take: those of a 390094, 8 and 16
abbrev pub text_room : ℕ
text_room = 24

abbrev pub zeros : ℕ → List ℕ
zeros zero = []
zeros (suc n) = 0 ∷ zeros n

-- L8: texts in their room, zero behind them
abbrev pub filled : List ℕ → List ℕ
filled t = t ++ zeros (text_room - length t)

-- L8: an answer, its texts in their room, and how many bytes of it they take
pub record WithTexts (A : Type 0) : Type 0 where
  pub answer : Answer A
  pub texts : List ℕ
  pub used : ℕ

-- L8: an answer with these texts
abbrev pub with_texts : {A : Type 0} → Answer A → List ℕ → WithTexts A
with_texts a t = record { answer = a; texts = filled t; used = length t }

-- J6: what a body that was judged tells; a refused one has neither record nor texts
abbrev pub once_accepted : {A : Type 0} → Answer Unit → A → List ℕ → WithTexts A
once_accepted (accepted u) a t = with_texts (accepted a) t
once_accepted (refused n vs) a t = with_texts (refused n vs) []

-- A2, J8: what is asked for by position: found, or no such entry
pub data Asked (A : Type 0) : Type 0 where
  found : A → Asked A
  no_such_entry : Asked A

-- A2: found where the position is below the count
abbrev pub below : {A : Type 0} → ℕ → ℕ → A → Asked A
below i count x = cond (ltb i count) (found x) no_such_entry

-- L6, J2: how a type's body is judged; an unlisted type is never refused
abbrev pub judge_listed : Listed → List ℕ → Answer Unit
judge_listed (listed m) s = judge_body m s
judge_listed unlisted s = accepted tt

-- J2: the same by the type's number
abbrev pub judge : ℕ → List ℕ → Answer Unit
judge type s = judge_listed (named type) s
