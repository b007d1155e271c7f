use Rattle.std.proofs.Common.{rules}
use mathlib.Core.Path.{◌≡◌, sym, ap, ◌∙◌}
use Rattle.std.specs.Prelude.{Ok, Err}
use Rattle.seats.specs.Arrays.{Arrays, held, held_mut}
use Rattle.joins.specs.Join.{answered}
use Rattle.joins.specs.Meet.{judged}
use Rattle.joins.proofs.Both.{fits_all, join-joined, refusal-judged, ok-judged}
use Rattle.joins.proofs.join_in.Goals as goal

pub returns-in_err-judge-clause-joins : goal.returns-in_err-judge-clause-joins
returns-in_err-judge-clause-joins c = let s = c.args in
    let e : c.from_residual.result ≡ Err c.in_err-judge.field-0.0 = search rules in
    λ g h x y. refusal-judged (held_mut s.mine.now) (held s.other) g h x y _ c.in_err-judge.field-0.0 e
    (e ∙ sym c.in_err-judge.was ∙ c.judge.ensures ∙ ap (λ (a : Arrays). judged a (held s.other)) c.read.ensures)

pub lay_all-requires : goal.lay_all-requires
lay_all-requires c = let s = c.args in
    let e : judged (held_mut s.mine.now) (held s.other) ≡ Ok tt = ap (λ (a : Arrays). judged a (held s.other)) (sym c.read.ensures) ∙ sym c.judge.ensures ∙ c.in_ok-judge.was in
    let k = ok-judged (held_mut s.mine.now) (held s.other) tt e in
    fits_all k.0 k.1

pub returns-clause-joins : goal.returns-clause-joins
returns-clause-joins c = let s = c.args in
    let e : judged (held_mut s.mine.now) (held s.other) ≡ Ok tt = ap (λ (a : Arrays). judged a (held s.other)) (sym c.read.ensures) ∙ sym c.judge.ensures ∙ c.in_ok-judge.was in
    let k = ok-judged (held_mut s.mine.now) (held s.other) tt e in
    λ g h x y. ap (answered (Ok tt)) c.lay_all.ensures.joined ∙ join-joined k.0 g h x y k.1
