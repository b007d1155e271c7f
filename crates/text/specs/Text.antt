-- Text in a lent buffer.
-- Assumes nothing.
use Rattle.std.specs.Prelude.{ℕ, zero, suc, ◌+◌, ◌/◌, ◌%◌, cond, List, [], ◌∷◌, ◌++◌, leb, eqb, length}
use Prim.Native.Char.{code}
use Prim.Native.String.{String}
use Prim.Native.String as chars
use Rattle.wire.specs.Bytes.{put_at}
use Rattle.wire.specs.Refusal.{too_short}

-- the code of a digit
abbrev pub glyph : ℕ → ℕ
glyph d = 48 + d

-- at most k + 1 decimal digits of a number, the first the highest, no zeros in front
unfoldable pub glyphs : ℕ → ℕ → List ℕ
glyphs zero v = glyph v ∷ []
glyphs (suc k) v = cond (leb v 9) (glyph v ∷ []) (glyphs k (v / 10) ++ (glyph (v % 10) ∷ []))

-- O1: a number of 64 bits in decimal: it has at most 20 digits
abbrev pub decimal_of : ℕ → List ℕ
decimal_of v = glyphs 19 v

-- the offset behind some bytes at an offset of the output where they fit; else that offset
unfoldable pub offset_behind : List ℕ → ℕ → List ℕ → ℕ
offset_behind out at bs = cond (leb (at + length bs) (length out)) (at + length bs) at

-- pieces one behind the other from an offset of the output on, each where it fits
unfoldable pub put_each : List ℕ → ℕ → List (List ℕ) → List ℕ
put_each out at [] = out
put_each out at (p ∷ ps) = put_each (put_at out at p) (offset_behind out at p) ps

-- the offset behind the last of them
unfoldable pub offset_behind_each : List ℕ → ℕ → List (List ℕ) → ℕ
offset_behind_each out at [] = at
offset_behind_each out at (p ∷ ps) = offset_behind_each (put_at out at p) (offset_behind out at p) ps

-- the codes of the characters of a text
abbrev pub codes : String → List ℕ
codes chars.[] = []
codes (chars.◌∷◌ c cs) = code c ∷ codes cs

-- O1: a frame's line: offset, type and L
abbrev pub frame_line : ℕ → ℕ → ℕ → List (List ℕ)
frame_line offset kind len = decimal_of offset ∷ codes " " ∷ decimal_of kind ∷ codes " " ∷ decimal_of len ∷ codes "\n" ∷ []

-- O3: the last line: the offset, and the count of frames; or the refusal's number, which is 0 where there is none, and behind 1 how many bytes are
-- missing
abbrev pub last_line : ℕ → ℕ → ℕ → ℕ → List (List ℕ)
last_line offset frames refused missing =
    cond (eqb refused 0)
    (decimal_of offset ∷ codes " end " ∷ decimal_of frames ∷ codes "\n" ∷ [])
    (cond (eqb refused too_short)
    (decimal_of offset ∷ codes " refused " ∷ decimal_of refused ∷ codes " " ∷ decimal_of missing ∷ codes "\n" ∷ [])
    (decimal_of offset ∷ codes " refused " ∷ decimal_of refused ∷ codes "\n" ∷ []))
