-- What a request writes reads back as the numbers that it asks for, and the history has them missing.
-- Assumes nothing.
use Prim.Native.Nat.{ℕ, ◌+◌, ◌^◌, ◌<◌, ◌≤◌}
use mathlib.Core.Path.{◌≡◌, refl, ap, sym, ◌∙◌, subst}
use mathlib.Core.Logic.{◌⊎◌, inl, inr}
use mathlib.Core.Bool.{Bool, true, false}
use mathlib.Core.List.{List, [], ◌∷◌, ◌++◌}
use native.Mathlib.Omega.{arith}
use lib.Dec.{ltb, lit<}
use lib.IntN.{pos}
use lib.ListN.{length, drop}
use mir.Syntax.{w64}
use mir.Val.{SFits}
use mir.Facts.{to_z_pos, sfits_to_z}
use Rattle.wire.specs.Answer.{Answer, accepted, refused, guard, and_then}
use Rattle.wire.specs.Bytes.{splice}
use Rattle.wire.specs.Refusal.{output_short}
use Rattle.frame.specs.Framing.{header_width, body_limit, read}
use Rattle.layout.specs.Layout.{resend, fields, type_number, size}
use Rattle.bodies.specs.Body.{Numbers, none, number, words, plain, sign, body, text_size}
use Rattle.bodies.proofs.Bodies.{same}
use Rattle.writer.proofs.Frames.{framed}
use Rattle.gaps.specs.declared.Run.{Run}
use Rattle.gaps.specs.Limits.{most_number}
use Rattle.gaps.proofs.Numbers.{lt_or_le}
use Rattle.gaps.proofs.Sets.{In, Canon, low}
use Rattle.gaps.proofs.Exact.{Exact}
use Rattle.tracker.specs.declared.Tracker.{Tracker}
use Rattle.tracker.specs.FirstRun.{Lost, lost, nothing_missing, foremost, first_run}
use Rattle.tracker.proofs.FirstRun.{first_of, first_lies}
use Rattle.tracker.specs.Request.{batch, asked, spaces, numbers_for, request_frame, request_length, room_for_request, written, nothing, answer_of, output_asked}
use Rattle.tracker.proofs.Batch.{asked_all, asked-batch, asked-within}
use Rattle.tracker.proofs.Fitting.{request-length, judged-request, answers_by, leaves_by}
use Rattle.demands.specs.Play.{Turn, history_of, channel_of, from_of}
use Rattle.demands.proofs.Calls.{frame_read_as, read_frame_as, request_as}
use Rattle.demands.specs.Requests.{Asks, Requests, RequestReads, Misses, AsksForMissing, RequestAsksForMissing, NothingIsMissing}
use Rattle.demands.proofs.Back.{back_known}
use Rattle.demands.proofs.Demand3.{view}

signed_fits : (n : ℕ) → n ≤ most_number → SFits w64 (pos n)
signed_fits n h = rw (to_z_pos w64 {n = n} (omega arith)) at (sfits_to_z {w = w64} {n = n} (omega arith))

module _ (k : ℕ) (r : Run) (c : k < 256 ^ 2) (low : r.first ≤ most_number) (high : r.last ≤ most_number) where
  held : Numbers (fields resend) (numbers_for k r)
  held =
      number (plain (lit< tt)) (number (plain c) (number (sign (signed_fits r.first low)) (number (sign (signed_fits r.last high))
      (words (number (plain (lit< tt)) (words none))))))

  long : length (body resend (numbers_for k r) spaces []) ≡ 44
  unfolding text_size size
  long = (same resend spaces [] held refl).long

  frame_of_lem : (z : List ℕ) → read header_width body_limit (request_frame k r ++ z) ≡ accepted (record { kind = 390094; len = 44; total = 56 })
  frame_of_lem z =
      (framed (type_number resend) (body resend (numbers_for k r) spaces []) z (lit< tt) (omega (arith, long))).reads ∙ rw long

  asks : (out : List ℕ) → ltb (length out) request_length ≡ false → Asks k r (splice out 0 (request_frame k r))
  unfolding splice guard
  asks out h =
      record {
        frame = λ a p. frame_read_as p ∙ frame_of_lem (drop (0 + length (request_frame k r)) out);
        fields = λ y p. read_frame_as p ∙ (back_known resend held spaces [] out request_length (judged-request k r low high (length out) ∙ rw h)).fields;
      }

module _ (t : Tracker) (k : ℕ) (c : k < 256 ^ 2) (out after : List ℕ) (n : ℕ) where
  by_room :
      (r : Run) → first_run t k ≡ accepted (lost r) → (b : Bool) → ltb (length out) request_length ≡ b →
      answer_of (room_for_request (length out) (lost r)) ≡ accepted (written n) → after ≡ output_asked (room_for_request (length out) (lost r)) k out → Requests t k n after
  unfolding guard
  by_room r f true e p q = let z : ◌≡◌ {A = ℕ} 0 1 = cc (rw e at p) in absurd (omega arith)
  by_room r f false e p q =
      let w = first_lies t k r f in
      let x = asked-within r in
      let a : accepted (written request_length) ≡ accepted (written n) = rw e at p in
      let m : request_length ≡ n = cc in
      let g : after ≡ splice out 0 (request_frame k (asked r)) = rw e at q in
      record {
        run = r;
        first = f;
        bytes = sym m ∙ request-length;
        asks = rw g (asks k (asked r) c (omega (arith, w.order, w.high, x.low)) (omega (arith, w.high, x.high)) out e);
      }

  by_first :
      (x : Answer Lost) → first_run t k ≡ x → answer_of (and_then x (room_for_request (length out))) ≡ accepted (written n) →
      after ≡ output_asked (and_then x (room_for_request (length out))) k out → Requests t k n after
  unfolding and_then
  by_first (accepted (lost r)) f p q = by_room r f (ltb (length out) request_length) refl p q
  by_first (accepted nothing_missing) f p q = let z : ◌≡◌ {A = ℕ} 0 1 = cc in absurd (omega arith)
  by_first (refused m vs) f p q = let z : ◌≡◌ {A = ℕ} 0 1 = cc in absurd (omega arith)

pub request_reads : RequestReads
request_reads t k out after a n c call e =
    by_first t k c out after n (first_run t k) refl (sym (answers_by t k out refl) ∙ sym (request_as call).answers ∙ e) ((request_as call).leaves ∙ leaves_by t k out refl)

-- ---- by the history

-- the runs behind the foremost one
record Front (l : List Run) (r : Run) : Type 0 where
  rest : List Run
  same : l ≡ r ∷ rest

front : (l : List Run) (r : Run) → foremost l ≡ lost r → Front l r
front [] r e = absurd (let z : ◌≡◌ {A = ℕ} 0 1 = cc in omega arith)
front (s ∷ l) r e = let q : s ≡ r = cc in record { rest = l; same = ap (λ (x : Run). x ∷ l) q }

-- the number behind a run is in no run
behind : (lo h : ℕ) (r : Run) (l : List Run) → Canon lo h (r ∷ l) → In (r ∷ l) (r.last + 1) → ⊥
behind lo h r l c (inl w) = omega (arith, w.1)
behind lo h r l c (inr w) = omega (arith, low (r.last + 2) h l (r.last + 1) c.3 w)

module _ (t u : Tracker) (l : List Turn) (k : ℕ) (x : Exact (from_of t k) (channel_of u k) (history_of k l)) (r : Run) (f : Front (channel_of u k).runs r) where
  order : Canon (from_of t k) (channel_of u k).highest (r ∷ f.rest)
  order = subst (Canon (from_of t k) (channel_of u k).highest) f.same x.order

  within : (n : ℕ) → Misses t k l n → In (r ∷ f.rest) n
  within n m = subst (λ (y : List Run). In y n) f.same (x.back n m)

  lacks : (n : ℕ) → r.first ≤ n → n ≤ r.last → Misses t k l n
  lacks n a b = x.out n (subst (λ (y : List Run). In y n) (sym f.same) (inl (a, b)))

  lowest : (n : ℕ) → Misses t k l n → r.first ≤ n
  lowest n m = low r.first (channel_of u k).highest (r ∷ f.rest) n (omega arith, order.1, order.2, order.3) (within n m)

  full : (r.last < r.first + batch) ⊎ (r.first + batch ≤ r.last) → Misses t k l ((asked r).last + 1) → (asked r).last + 1 ≡ (asked r).first + batch
  full (inl h) m = absurd (behind (from_of t k) (channel_of u k).highest r f.rest order (within (r.last + 1) (rw (asked_all r h) at m)))
  full (inr h) m = rw (asked-batch r h) (omega arith)

  asks-missing : (s : List ℕ) → Asks k (asked r) s → AsksForMissing t k l s
  asks-missing s a =
      let w = asked-within r in
      record {
        run = asked r;
        asks = a;
        some = some;
        missing = λ n p q. lacks n (omega (arith, w.low)) (omega (arith, w.high));
        least = λ n m. omega (arith, w.low, lowest n m);
        few = w.few;
        whole = full (lt_or_le r.last (r.first + batch));
      }
    where
      some : (asked r).first ≤ (asked r).last
      some = go (lt_or_le r.last (r.first + batch))
        where
          go : (r.last < r.first + batch) ⊎ (r.first + batch ≤ r.last) → (asked r).first ≤ (asked r).last
          go (inl h) = rw (asked_all r h) order.1
          go (inr h) = rw (asked-batch r h) (omega arith)

pub request_asks_for_missing : RequestAsksForMissing
request_asks_for_missing ns fs t u l f p k h c out after a n call e =
    let q = request_reads u k out after a n c call e in
    let g = front (channel_of u k).runs q.run (first_of u k (lost q.run) q.first).same in
    asks-missing t u l k (view ns fs t u l f p k h).right q.run g after q.asks

-- "nothing missing" is answered where the channel has no run
none_first : (u : Tracker) (k room : ℕ) (x : Answer Lost) → first_run u k ≡ x → answer_of (and_then x (room_for_request room)) ≡ accepted nothing → first_run u k ≡ accepted nothing_missing
unfolding and_then guard
none_first u k room (accepted (lost r)) f p = absurd (go (ltb room request_length) p)
  where
    go : (b : Bool) → answer_of (guard b (refused output_short []) (accepted (lost (asked r)))) ≡ accepted nothing → ⊥
    go true q = let z : ◌≡◌ {A = ℕ} 0 1 = cc in omega arith
    go false q = let z : ◌≡◌ {A = ℕ} 0 1 = cc in omega arith
none_first u k room (accepted nothing_missing) f p = f
none_first u k room (refused m vs) f p = absurd (let z : ◌≡◌ {A = ℕ} 0 1 = cc in omega arith)

empty : (l : List Run) → foremost l ≡ nothing_missing → (n : ℕ) → In l n → ⊥
empty [] e n i = i
empty (r ∷ l) e n i = let z : ◌≡◌ {A = ℕ} 0 1 = cc in omega arith

pub nothing-is-missing : NothingIsMissing
nothing-is-missing ns fs t u l f p k h out after a call e n m =
    let q = none_first u k (length out) (first_run u k) refl (sym (answers_by u k out refl) ∙ sym (request_as call).answers ∙ e) in
    empty (channel_of u k).runs (first_of u k nothing_missing q).same n ((view ns fs t u l f p k h).right.back n m)
