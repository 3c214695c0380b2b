-- `add_log` meets its contract: there is always room.
use native.Mathlib.Omega.{arith}
use mathlib.Core.Path.{refl, ◌∙◌, ap}
use lib.ListN.{take}
use Rattle.udsbook.proofs.Holding.{added, refused, room-enough}
use Rattle.udsbook.proofs.add_log.Goals as goal

pub returns-in-Ok : goal.returns-in-Ok
returns-in-Ok c =
    let x = c.args in
    let z = c.add.new.book in
    let k =
    added (take x.n x.book.now) x.log.now x.book.now x.summary.now c.summarize.new.summary z c.add.new.summary c.summarize.result c.in-Ok.m
    c.put_added-words.result c.in-Ok.entry x.said.now c.put_added-words.new.text c.requires.2 c.requires.1 (omega arith)
    (rw c.part.ensures at c.summarize.ensures) c.in-Ok.ensures c.put_added-words.ensures
    in
    record { out = c.part-in-Ok.ensures ∙ k.out; report = c.put.ensures ∙ k.said }

pub returns-in-Err-Refused : goal.returns-in-Err-Refused
returns-in-Err-Refused c =
    let x = c.args in
    let z = c.add.new.book in
    let k =
    refused (take x.n x.book.now) x.log.now x.book.now x.summary.now c.summarize.new.summary z c.add.new.summary c.in-Err-Refused.refusal x.n
    (rw c.in-Err-Refused.field-0-is at c.in-Err-Refused.ensures) refl
    in
    record { out = c.part-in-Err-Refused.ensures ∙ ap (λ n. take n z) c.kept.ensures ∙ k.out; report = c.refused.ensures ∙ k.said }

pub returns-in-Err-NoRoom : goal.returns-in-Err-NoRoom
returns-in-Err-NoRoom c =
    let x = c.args in
    absurd (room-enough (take x.n x.book.now) x.log.now x.book.now x.summary.now c.summarize.new.summary c.add.new.book c.add.new.summary
    c.requires.0 (rw c.in-Err-NoRoom.field-0-is at c.in-Err-NoRoom.ensures))
