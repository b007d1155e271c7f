use Rattle.std.proofs.Common.{arith, ◌∙◌}
use Rattle.window.proofs.Slides.{slid_beyond, slid-none, pasted}
use Rattle.window.proofs.slide.Goals as goal
use Rattle.window.proofs.slide.Goals.{then-window-to-via-then-window-to, then-window-to-via-else-window-to+then-to-from}

pub returns-then-window-to : goal.returns-then-window-to
returns-then-window-to c =
    elim c.then-window-to.branch [
      | then-window-to-via-then-window-to w ↦ slid_beyond _ _ _ (omega arith)
      | then-window-to-via-else-window-to+then-to-from w ↦ slid-none _ _ _ (omega arith) (omega arith)
    ]

pub returns : goal.returns
returns c =
    let a = c.args in
    let p = pasted a.window.now a.from a.to (omega arith) (omega arith) in
    (c.copy_within.ensures.after ∙ p.0, p.1)
