use native.Mathlib.Omega.{arith}
use mathlib.Core.Path.{sym}
use lib.ListN.{get_or}
use Rattle.gaps.specs.Gaps.{grow}
use Rattle.std.specs.Prelude.{Ok}
use Rattle.seats.specs.Arrays.{held_mut}
use Rattle.tracker.specs.Places.{made, channel_at}
use Rattle.tracker.specs.Arrived.{arrival_said}
use Rattle.tracker.proofs.Room.{room_grows}
use Rattle.tracker.proofs.Put.{kept_row, byte}
use Rattle.tracker.proofs.Judge.{stored_full, raised}
use Rattle.tracker.proofs.lent.raise.Goals as goal

pub returns-in_default-clause-raises : goal.returns-in_default-clause-raises
returns-in_default-clause-raises c = let s = c.args in
    let t = s.fields.now in
    let w = kept_row c.requires in
    let g = room_grows t.first.now t.last.now s.at (get_or t.counts.now s.at 0) (get_or t.highest.now s.at 0) c.requires.place w.room w.high c.room.result c.room.ensures in
    let over = rw c.in_default.is at g in
    let u = made (held_mut t) in
    sym (stored_full u s.at (arrival_said (Ok s.news)) s.top s.mark (grow (channel_at u s.at).runs (channel_at u s.at).highest s.m) (over s.m))

pub overflow_add-p : goal.overflow_add-p
overflow_add-p c = let s = c.args in
    let t = s.fields.now in
    let w = kept_row c.requires in
    let g = room_grows t.first.now t.last.now s.at (get_or t.counts.now s.at 0) (get_or t.highest.now s.at 0) c.requires.place w.room w.high c.room.result c.room.ensures in
    let r = rw c.in-Some.is at g in
    omega (arith, r.within, c.requires.place)

pub offset_bounds-fields-p : goal.offset_bounds-fields-p
offset_bounds-fields-p c = let s = c.args in
    let t = s.fields.now in
    let w = kept_row c.requires in
    let g = room_grows t.first.now t.last.now s.at (get_or t.counts.now s.at 0) (get_or t.highest.now s.at 0) c.requires.place w.room w.high c.room.result c.room.ensures in
    let r = rw c.in-Some.is at g in
    omega (arith, r.within, c.requires.place)

pub bounds-fields-p : goal.bounds-fields-p
bounds-fields-p c = let s = c.args in
    let t = s.fields.now in
    let w = kept_row c.requires in
    let g = room_grows t.first.now t.last.now s.at (get_or t.counts.now s.at 0) (get_or t.highest.now s.at 0) c.requires.place w.room w.high c.room.result c.room.ensures in
    let r = rw c.in-Some.is at g in
    omega (arith, r.within, c.requires.place)

pub offset_bounds-fields-p-2 : goal.offset_bounds-fields-p-2
offset_bounds-fields-p-2 c = let s = c.args in
    let t = s.fields.now in
    let w = kept_row c.requires in
    let g = room_grows t.first.now t.last.now s.at (get_or t.counts.now s.at 0) (get_or t.highest.now s.at 0) c.requires.place w.room w.high c.room.result c.room.ensures in
    let r = rw c.in-Some.is at g in
    omega (arith, r.within, c.requires.place)

pub bounds-fields-p-2 : goal.bounds-fields-p-2
bounds-fields-p-2 c = let s = c.args in
    let t = s.fields.now in
    let w = kept_row c.requires in
    let g = room_grows t.first.now t.last.now s.at (get_or t.counts.now s.at 0) (get_or t.highest.now s.at 0) c.requires.place w.room w.high c.room.result c.room.ensures in
    let r = rw c.in-Some.is at g in
    omega (arith, r.within, c.requires.place)

pub overflow_add-fields : goal.overflow_add-fields
overflow_add-fields c = let s = c.args in
    let t = s.fields.now in
    let w = kept_row c.requires in
    let g = room_grows t.first.now t.last.now s.at (get_or t.counts.now s.at 0) (get_or t.highest.now s.at 0) c.requires.place w.room w.high c.room.result c.room.ensures in
    let r = rw c.in-Some.is at g in
    omega (arith, r.within, c.requires.place)

pub returns-clause-raises : goal.returns-clause-raises
returns-clause-raises c = let s = c.args in
    let t = s.fields.now in
    let w = kept_row c.requires in
    let g = room_grows t.first.now t.last.now s.at (get_or t.counts.now s.at 0) (get_or t.highest.now s.at 0) c.requires.place w.room w.high c.room.result c.room.ensures in
    let r = rw c.in-Some.is at g in
    let u = made (held_mut t) in
    rw (c.from.ensures, byte s.mark) (sym (raised u s.at w (arrival_said (Ok s.news)) s.top s.mark s.m c.in-Some.gap r))
