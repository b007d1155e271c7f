-- How many bytes more would let the reader judge further, and how far it has judged, over the header's width h and the body limit.
-- Assumes nothing.
use Rattle.std.specs.Prelude.{ℕ, ◌+◌, cond, List, ltb, length}
use Rattle.wire.specs.Answer.{Answer, accepted, refused}
use Rattle.frame.specs.Framing.{length_of, sum_width, read, missing_by}
use Rattle.frame.specs.declared.Frame.{Frame}

-- F2: where the frame ends, by its header
abbrev pub end_of : ℕ → List ℕ → ℕ
end_of h s = h + length_of h s + sum_width

-- F8: what a reading says is missing
abbrev pub missing_in : Answer Frame → ℕ
missing_in (accepted f) = 0
missing_in (refused n vs) = missing_by vs

-- F8, S4: what bytes lack; 0 where 1 is not given
unfoldable pub wanting : ℕ → ℕ → List ℕ → ℕ
wanting h limit s = missing_in (read h limit s)

-- S4: to the frame's end, to the header's for 2, else all of it: no byte behind it is judged
unfoldable pub reach : ℕ → ℕ → List ℕ → ℕ
reach h limit s =
    cond (ltb (length s) h) (length s)
    (cond (ltb limit (length_of h s)) h (cond (ltb (length s) (end_of h s)) (length s) (end_of h s)))
