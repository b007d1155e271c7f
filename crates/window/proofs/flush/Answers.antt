use Rattle.std.proofs.Common.{ℕ, ◌≡◌, ◌-◌, ◌∙◌, ap, arith, subst, sym, take}
use Rattle.std.specs.Io.KnownBytes.{Appends}
use Rattle.window.proofs.Slides.{kept_all, kept_none, none-to-write, none-there, all-written, appends-none, on-error}
use Rattle.window.proofs.flush.Goals as goal

pub returns-then-out-gathered-clause-held : goal.returns-then-out-gathered-clause-held
returns-then-out-gathered-clause-held g c = kept_none _ _ _ (omega arith)

pub returns-then-out-gathered-clause-wrote : goal.returns-then-out-gathered-clause-wrote
returns-then-out-gathered-clause-wrote g c =
    let a = c.args in
    subst (Appends _ _) (sym (none-there a.out.now a.gathered a.room (omega arith))) (appends-none _)

pub returns-in_err-write_all-clause-failed : goal.returns-in_err-write_all-clause-failed
returns-in_err-write_all-clause-failed g c =
    let a = c.args in
    on-error _ _ (sym (kept_none a.out.now a.gathered a.room (omega arith)))

pub returns-then-out-gathered-2-clause-held : goal.returns-then-out-gathered-2-clause-held
returns-then-out-gathered-2-clause-held g c = kept_none _ _ _ (omega arith)

pub returns-then-out-gathered-2-clause-wrote : goal.returns-then-out-gathered-2-clause-wrote
returns-then-out-gathered-2-clause-wrote g c =
    let a = c.args in
    let e : a.gathered - 0 ≡ a.gathered = omega arith in
    let w = all-written a.out.now a.gathered a.room (omega arith) (omega arith) in
    subst (Appends _ _) (ap (λ (n : ℕ). take n a.out.now) e ∙ sym w) c.in_ok-write_all.ensures.bytes

pub returns-clause-held : goal.returns-clause-held
returns-clause-held g c = kept_all _ _ _ (omega arith)

pub returns-clause-wrote : goal.returns-clause-wrote
returns-clause-wrote g c =
    let a = c.args in
    subst (Appends _ _) (sym (none-to-write a.out.now a.gathered a.room (omega arith))) (appends-none _)
