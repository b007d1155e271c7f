use Rattle.std.proofs.Common.{◌≡◌, ◌-◌, ◌<◌, length, ◌∙◌, refl, sym, ap, take, drop, arith, take_all}
use Rattle.std.proofs.lemmas.List.{length-replicate}
use Rattle.std.proofs.lemmas.Slice.{put_mid-paste}
use Rattle.std.specs.Prelude.{replicate}
use Rattle.wire.specs.Bytes.{be, be_at}
use Rattle.wire.proofs.PutAt.{paste_all}
use Rattle.wire.proofs.Rest.{rest_of, padded}
use Rattle.wire.proofs.number.bytes.Goals as goal

pub returns-in-Some : goal.returns-in-Some
unfolding be_at
returns-in-Some g c = let a = c.args in
    let n = g.row.N in
    let r : c.unwrap_or-rest.result.now ≡ drop a.at a.s.now = rw c.unwrap_or-rest.ensures (rest_of a.s.now a.at _ _ refl c.get.ensures.lookup.0) in
    ap be (c.in-Some.ensures.cases.same ∙ ap (take n) r)

pub returns-in-None : goal.returns-in-None
unfolding be_at
returns-in-None g c = let a = c.args in
    let n = g.row.N in
    let w = c.unwrap_or-rest.result.now in
    let r : w ≡ drop a.at a.s.now = rw c.unwrap_or-rest.ensures (rest_of a.s.now a.at _ _ refl c.get.ensures.lookup.0) in
    let few : length w < n = c.in-None.ensures.cases in
    let z : length w ≡ length (replicate n 0) - (n - length w) = rw length-replicate (omega arith) in
    ap be (put_mid-paste (n - length w) _ (replicate n 0) _ w _ c.copy_from_slice.ensures.after z refl ∙ paste_all (replicate n 0) (n - length w) w)
    ∙ padded n w (omega arith)
    ∙ ap be (r ∙ sym (take_all n (drop a.at a.s.now) (rw (← r) (omega arith))))
