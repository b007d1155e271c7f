-- Demand 1's refusals: for each call, in their order, each with its condition (specs/Conditions); and what there is not beside one.
-- Assumes nothing.
use Rattle.std.specs.Prelude.{ℕ, ◌+◌, ◌<◌, ◌≡◌, ◌⊎◌, List, [], ◌∷◌, ◌++◌, ℤ, length}
use Rattle.wire.specs.Answer.{refused}
use Rattle.wire.specs.Bytes.{be_at, part}
use Rattle.wire.specs.Refusal.{too_short, too_long, wrong_sum, not_its_layout, out_of_range, output_short, no_such_channel, number_too_low, table_full, malformed}
use Rattle.frame.specs.Framing.{body_limit, means_framed}
use Rattle.frame.specs.Framing.{Framed}
use Rattle.layout.specs.Layout.{fields, named}
use Rattle.layout.specs.Group.{group}
use Rattle.layout.specs.Paper.{means_verdict}
use Rattle.layout.specs.Paper.{Verdict}
use Rattle.record.specs.Asked.{WithTexts, with_texts}
use Rattle.record.specs.Record.{Reading, known, unknown}
use Rattle.entries.specs.Entry.{At}
use Rattle.bodies.specs.Body.{body_length, stated}
use Rattle.gaps.specs.Channel.{Event}
use Rattle.seats.specs.Places.{channel_limit}
use Rattle.tracker.specs.declared.Tracker.{Tracker}
use Rattle.streams.specs.Stream.{unfinished}
use Rattle.streams.specs.declared.Stream.{Stream}
use Rattle.demands.specs.Streams.{LedTo}
use Rattle.demands.specs.Calls.{FrameRead, FrameBody, Judge, GroupsOf}
use Rattle.demands.specs.Rules.{Rule, ◌if◌, ◌lacking◌provided◌}
use Rattle.demands.specs.Conditions.{L, lacks, SumDiffers, TooLongIn, WrongSumIn, GoesOn, LeftOver, BodyShort, Strays, behind_of, EntryLacks, EntryStrays, Exactly, NumberOut, SomeGroupOut, Falls, NoFirst, Keeps, NotIn, Low, Overfills, RequestShort}

-- F8, R1, R2, J1: the bytes of a frame
abbrev pub frame_rules : List ℕ → List Rule
frame_rules s =
    too_short lacking lacks s provided (length s < 8)
    ∷ too_long if (body_limit < L s)
    ∷ too_short lacking lacks s provided (length s < 12 + L s)
    ∷ wrong_sum if SumDiffers s
    ∷ []

-- F8, S4, S7, S8, J9: a cut of a stream
abbrev pub push_rules : Stream → List ℕ → List ℕ → List Rule
push_rules st buffer c =
    malformed if (LedTo st buffer → ⊥)
    ∷ too_short lacking lacks (unfinished st buffer) provided LeftOver st
    ∷ too_long if ((st.mark ≡ too_long) ⊎ (GoesOn st × TooLongIn (unfinished st buffer ++ c)))
    ∷ wrong_sum if ((st.mark ≡ wrong_sum) ⊎ (GoesOn st × WrongSumIn (unfinished st buffer ++ c)))
    ∷ []

-- F8, S6, S7, S8, J9: its end
abbrev pub end_rules : Stream → List ℕ → List Rule
end_rules st buffer =
    malformed if (LedTo st buffer → ⊥)
    ∷ too_short lacking lacks (unfinished st buffer) provided (LeftOver st ⊎ (GoesOn st × (0 < st.held)))
    ∷ too_long if (st.mark ≡ too_long)
    ∷ wrong_sum if (st.mark ≡ wrong_sum)
    ∷ []

-- J2: a body of a type
abbrev pub body_rules : ℕ → List ℕ → List Rule
body_rules type b = not_its_layout if BodyShort (named type) b ∷ out_of_range if Strays (named type) b ∷ []

-- F6, J1: a frame's bytes, then its body
abbrev pub reader_rules : List ℕ → List Rule
reader_rules s = frame_rules s ++ body_rules (be_at s 0 4) (part 8 (8 + L s) s)

-- A6: one entry, at a cursor
abbrev pub step_rules : ℕ → List ℕ → At → List Rule
step_rules type b c = not_its_layout if EntryLacks (behind_of (named type)) b c ∷ out_of_range if EntryStrays (behind_of (named type)) b c ∷ []

-- R2, R5, R6, J3: a record, texts and groups, for an output of room bytes
abbrev pub writer_rules : Reading → List ℕ → List ℕ → ℕ → List Rule
writer_rules (unknown type) ts gs room = out_of_range if Unit ∷ []
writer_rules (known m zs) ts gs room =
    not_its_layout if (Exactly m zs ts gs → ⊥)
    ∷ out_of_range if (NumberOut (fields m) zs ⊎ SomeGroupOut (group m) gs 0 (stated m zs))
    ∷ too_long if (body_limit < body_length m gs)
    ∷ output_short if (room < 12 + body_length m gs)
    ∷ []

-- T1, R10: a list of channels, and one of their first numbers
abbrev pub set_up_rules : List ℕ → List ℤ → List Rule
set_up_rules numbers from =
    malformed if (length numbers ≡ 0)
    ∷ malformed if (channel_limit < length numbers)
    ∷ malformed if (length numbers ≡ length from → ⊥)
    ∷ malformed if Falls numbers
    ∷ malformed if NoFirst from
    ∷ []

-- J4: an arrival on channel k; "before start", no refusal, stands before 9 in the condition of 9
abbrev pub arrival_rules : Tracker → ℕ → Event → List Rule
arrival_rules t k e = malformed if (Keeps t → ⊥) ∷ no_such_channel if NotIn t k ∷ number_too_low if Low e ∷ table_full if Overfills t k e ∷ []

-- J5: a request for channel k, to an output of room bytes
abbrev pub request_rules : Tracker → ℕ → ℕ → List Rule
request_rules t k room = malformed if (Keeps t → ⊥) ∷ no_such_channel if NotIn t k ∷ output_short if RequestShort t k room ∷ []

-- ---- beside a refusal

-- F6, J6: a refused frame has no body
abbrev pub NoBody : Type 0
NoBody = (s b : List ℕ) (a : Framed) (n : ℕ) (vs : List ℕ) → FrameRead s a → means_framed a ≡ refused n vs → FrameBody s b → b ≡ []

-- A7, J6: a refused body has no groups
abbrev pub NoGroups : Type 0
NoGroups =
    (type : ℕ) (b gs : List ℕ) (v : Verdict) (n : ℕ) (vs : List ℕ) → Judge type b v → means_verdict v ≡ refused n vs → GroupsOf type b gs → gs ≡ []

-- L8, J6: a refusal has no texts: their room is zero, and none of it is used
abbrev pub NoTexts : {A : Type 0} → WithTexts A → Type 0
NoTexts t = (n : ℕ) (vs : List ℕ) → t.answer ≡ refused n vs → t ≡ with_texts (refused n vs) []
