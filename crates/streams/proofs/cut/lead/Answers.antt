-- `streams::cut::lead` meets its contract: behind the header the cut ends before what is missing then, or brings it.
-- Assumes nothing.
use Rattle.std.proofs.Common.{◌≡◌, ℕ, ◌+◌, ◌-◌, ◌<◌, ◌≤◌, List, ◌++◌, length, take, drop, sym, ◌∙◌, arith, length-take-le}
use lib.Dec.{lit≤}
use Rattle.wire.specs.Bytes.{splice}
use Rattle.frame.specs.Framing.{header_width, body_limit}
use Rattle.frame.specs.Wanting.{wanting}
use Rattle.streams.specs.Stream.{read_on, kept_on}
use Rattle.streams.specs.Steps.{Brought, Judgeable, more_told, judged}
use Rattle.streams.proofs.Pushes.{first_front, go_less, rest_comes, rest_fits, rest_bytes}
use Rattle.streams.proofs.cut.lead.Goals as goal

module _ (buffer : List ℕ) (held : ℕ) (cut : List ℕ) (q : Brought header_width body_limit buffer held (header_width - held) cut) where
  abbrev came : ℕ
  came = header_width - held

  -- the buffer with the header, and what is missing then
  module _ (new head tail : List ℕ) (w : ℕ) (a : head ≡ take came cut) (b : tail ≡ drop came cut) (e : new ≡ splice buffer held head)
      (v : w ≡ wanting header_width body_limit (take (held + came) new)) where
    rest-is : w ≡ wanting header_width body_limit (take held buffer ++ take came cut)
    rest-is = rw (e, a, first_front header_width body_limit buffer held came cut (lit≤ tt) q) at v

    -- less of it comes
    less :
        length tail < w →
        (held + came + length tail ≤ length new)
        × (more_told (length cut) (held + length cut) (w - length tail) ≡ read_on header_width body_limit (take held buffer) cut)
        × (splice new (held + came) tail ≡ kept_on header_width body_limit (take held buffer) cut buffer)
    less i = rw (e, a, b, rest-is) (go_less header_width body_limit buffer held came cut (lit≤ tt) q (rw (b, rest-is) at i))

    -- all of it comes
    module _ (i : w ≤ length tail) where
      fits : held + came + length (take w tail) ≤ length new
      fits = rw (e, a, b, rest-is) (rest_fits header_width body_limit buffer held came cut (lit≤ tt) q (rw (b, rest-is) at i))

      module _ (last : List ℕ) (z : last ≡ splice new (held + came) (take w tail)) where
        ends :
            (held + came + w ≤ length last)
            × Judgeable header_width body_limit (take (held + came + w) last) held
            × (judged header_width body_limit (take (held + came + w) last) held ≡ read_on header_width body_limit (take held buffer) cut)
            × (last ≡ kept_on header_width body_limit (take held buffer) cut buffer)
        ends =
            let j = rw (b, rest-is) at i in
            let d = rest_comes header_width body_limit buffer held came cut (lit≤ tt) q j in
            let f : last ≡ splice buffer held (take (came + w) cut) = z ∙ rw (e, a, b, rest-is) (rest_bytes header_width body_limit buffer held came cut (lit≤ tt) q j) in
            let n : held + came + w ≡ held + (came + w) = omega arith in
            rw (f, n, rest-is) (omega (arith, d.room, d.size), d.enough, d.told, d.kept)

pub keep-requires-then-tail-rest : goal.keep-requires-then-tail-rest
keep-requires-then-tail-rest c =
    let a = c.args in
    let s = c.split_at.ensures in
    (less a.buffer.now a.held a.cut.now c.requires.0 _ _ _ _ s.front s.back c.keep.ensures c.wanting-rest.ensures c.if-tail-rest.true).0

pub returns-then-tail-rest : goal.returns-then-tail-rest
returns-then-tail-rest c =
    let a = c.args in
    let s = c.split_at.ensures in
    let g = less a.buffer.now a.held a.cut.now c.requires.0 _ _ _ _ s.front s.back c.keep.ensures c.wanting-rest.ensures c.if-tail-rest.true in
    record { result_value = c.more.ensures ∙ g.1; buffer_after = c.keep-then-tail-rest.ensures ∙ g.2 }

pub keep-requires-2 : goal.keep-requires-2
keep-requires-2 c =
    let a = c.args in
    let s = c.split_at.ensures in
    fits a.buffer.now a.held a.cut.now c.requires.0 _ _ _ _ s.front s.back c.keep.ensures c.wanting-rest.ensures c.if-tail-rest.false

pub slice_bounds-judge-end : goal.slice_bounds-judge-end
slice_bounds-judge-end c =
    let a = c.args in
    let s = c.split_at.ensures in
    (ends a.buffer.now a.held a.cut.now c.requires.0 _ _ _ _ s.front s.back c.keep.ensures c.wanting-rest.ensures c.if-tail-rest.false _ c.keep-2.ensures).0

pub slice_bounds-judge-end-2 : goal.slice_bounds-judge-end-2
slice_bounds-judge-end-2 c = sym (length-take-le _ _ (slice_bounds-judge-end c))

pub judge-requires : goal.judge-requires
judge-requires c =
    let a = c.args in
    let s = c.split_at.ensures in
    (ends a.buffer.now a.held a.cut.now c.requires.0 _ _ _ _ s.front s.back c.keep.ensures c.wanting-rest.ensures c.if-tail-rest.false _ c.keep-2.ensures).1

pub returns : goal.returns
returns c =
    let a = c.args in
    let s = c.split_at.ensures in
    let d = ends a.buffer.now a.held a.cut.now c.requires.0 _ _ _ _ s.front s.back c.keep.ensures c.wanting-rest.ensures c.if-tail-rest.false _ c.keep-2.ensures in
    record { result_value = c.judge.ensures ∙ d.2; buffer_after = d.3 }
