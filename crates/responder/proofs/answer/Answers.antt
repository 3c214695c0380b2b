-- `responder::answer` meets its contract, arm by arm.
use Prim.Native.Nat.{◌/◌, ◌%◌}
use native.Mathlib.Omega.{arith}
use mathlib.Core.Path.{◌≡◌, refl}
use borrow.Author.Tests.{ne_eqb}
use lib.ListN.{get_or}
use Rattle.bench.specs.Stores.{store_of}
use Rattle.responder.specs.declared.Decision.TheVariants.{Refuse, Session, Reset, Present, Count, ReadRecord, ReadMemory}
use Rattle.responder.proofs.Replies.{replies, silent}
use Rattle.responder.proofs.answer.Goals as goal

pub write-requires : goal.write-requires
write-requires c = rw c.in-WriteRecord.is at c.requires

pub returns-in-KeepSilent : goal.returns-in-KeepSilent
returns-in-KeepSilent c = silent _ _ _ (rw c.in-KeepSilent.is at c.requires)

pub returns-in-Refuse : goal.returns-in-Refuse
returns-in-Refuse c =
    replies _ _ _ (Refuse _) (rw c.in-Refuse.is at c.requires) tt refl (rw c.byte_at-sid.ensures) c.put.ensures

pub returns-in-Session : goal.returns-in-Session
unfolding store_of
returns-in-Session c =
    replies _ _ _ Session (rw c.in-Session.is at c.requires) tt refl (rw (c.byte_at-sub.ensures, c.part.ensures)) c.put-in-Session.ensures

pub returns-in-Reset : goal.returns-in-Reset
unfolding store_of
returns-in-Reset c =
    let four : get_or c.args.request.now 1 0 % 128 ≡ 4 = rw c.byte_at-sub.ensures at c.if-sub-eq4.true in
    replies _ _ _ Reset (rw c.in-Reset.is at c.requires) tt refl (rw (four, c.byte_at.ensures)) c.put-in-Reset.ensures

pub returns-in-Reset-2 : goal.returns-in-Reset-2
returns-in-Reset-2 c =
    let other = ne_eqb (get_or c.args.request.now 1 0 % 128) 4 (rw c.byte_at-sub.ensures at c.if-sub-eq4.false) in
    replies _ _ _ Reset (rw c.in-Reset-2.is at c.requires) tt refl (rw (c.byte_at-sub.ensures, other)) c.put-in-Reset-2.ensures

pub returns-in-Present : goal.returns-in-Present
returns-in-Present c =
    replies _ _ _ Present (rw c.in-Present.is at c.requires) tt refl refl c.put-in-Present.ensures

pub returns-in-Count : goal.returns-in-Count
unfolding store_of
returns-in-Count c =
    let high : c.count.result / 256 % 256 ≡ c.count.result / 256 = omega arith in
    replies _ _ _ Count (rw c.in-Count.is at c.requires) tt refl (rw (c.byte_at-in-Count.ensures, c.byte_at-in-Count-2.ensures, c.to_be_bytes-n.ensures, high, c.count.ensures)) c.put-in-Count.ensures

pub returns-in-ReadRecord : goal.returns-in-ReadRecord
returns-in-ReadRecord c =
    replies _ _ _ (ReadRecord _) (rw c.in-ReadRecord.is at c.requires) tt refl (rw (c.byte_at-sub.ensures, c.byte_at-low.ensures, c.part-in-ReadRecord.ensures)) c.put-in-ReadRecord.ensures

pub returns-in-ReadMemory : goal.returns-in-ReadMemory
returns-in-ReadMemory c =
    replies _ _ _ (ReadMemory _) (rw c.in-ReadMemory.is at c.requires) tt refl (rw c.part-in-ReadMemory.ensures) c.put-in-ReadMemory.ensures
