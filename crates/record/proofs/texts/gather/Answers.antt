use Rattle.std.proofs.Common.{ℕ, ◌≡◌, ◌+◌, ◌-◌, List, ◌++◌, drop, length, ap, sym, ◌∙◌, arith, length-append}
use Rattle.std.proofs.lemmas.List.{length-take}
use Rattle.wire.specs.Bytes.{part, put_at}
use Rattle.record.specs.Asked.{filled}
use Rattle.record.proofs.Gathered.{both-put}
use Rattle.record.proofs.texts.gather.Goals as goal

pub returns : goal.returns
returns c =
    let x : List ℕ = c.span-x.result.now in
    let y : List ℕ = c.span-y.result.now in
    let m : c.args.m ≡ c.args.a + c.args.m - c.args.a = omega arith in
    let n : c.args.n ≡ c.args.b + c.args.n - c.args.b = omega arith in
    let xs : x ≡ part c.args.a (c.args.a + c.args.m) c.args.s.now = rw m at c.span-x.ensures in
    let ys : y ≡ part c.args.b (c.args.b + c.args.n) c.args.s.now = rw n at c.span-y.ensures in
    let l = ap (length {A = ℕ}) c.span-x.ensures ∙ length-take c.args.m (drop c.args.a c.args.s.now) in
    let k = ap (length {A = ℕ}) c.span-y.ensures ∙ length-take c.args.n (drop c.args.b c.args.s.now) in (
      c.copy-2.ensures
          ∙ ap (λ (o : List ℕ). put_at o (length x) y) c.copy.ensures
          ∙ both-put x y (omega (arith, l, k))
          ∙ (λ i. filled (xs i ++ ys i)),
      sym (length-append x y) ∙ (λ i. length (xs i ++ ys i)),
    )
