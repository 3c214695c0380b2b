-- `responder::read_memory` meets its contract.
use Rattle.std.proofs.Common.{◌∙◌}
use Rattle.responder.proofs.Services.{memory-too-short, memory-wrong-length, no_address, no_size, two-parts, memory-outside, memory-too-long, memory-granted}
use Rattle.responder.proofs.read_memory.Goals.{then-address-lt1-via-then-address-lt1, then-address-lt1-via-else-address-lt1+then-size-lt1}
use Rattle.responder.proofs.read_memory.Goals as goal

pub returns-then-request-lt4 : goal.returns-then-request-lt4
returns-then-request-lt4 c = (memory-too-short c.args.store.now c.args.request.now c.if-request-lt4.true, tt)

pub returns-then-request-address : goal.returns-then-request-address
returns-then-request-address c = (memory-wrong-length c.args.store.now c.args.request.now c.if-request-address.true, tt)

pub returns-then-address-lt1 : goal.returns-then-address-lt1
returns-then-address-lt1 c =
    let l = c.args.store.now in
    let q = c.args.request.now in
    elim c.then-address-lt1.branch [
      | then-address-lt1-via-then-address-lt1 w ↦ (no_address l q c.if-request-lt4.false c.if-request-address.false w.if-address-lt1.true, tt)
      | then-address-lt1-via-else-address-lt1+then-size-lt1 w ↦ (no_size l q c.if-request-lt4.false c.if-request-address.false w.if-address-lt1.false w.if-size-lt1.true, tt)
    ]

pub returns-in_default : goal.returns-in_default
returns-in_default c =
    let l = c.args.store.now in
    let q = c.args.request.now in
    let exact = c.if-request-address.false in
    let held = two-parts l q c.if-request-lt4.false exact c.split_at.ensures.front c.split_at.ensures.back in
    (memory-outside l q c.if-request-lt4.false exact c.if-address-lt1.false c.if-size-lt1.false (c.in_default.ensures ∙ held), tt)

pub returns-then-place-gt4094 : goal.returns-then-place-gt4094
returns-then-place-gt4094 c =
    let l = c.args.store.now in
    let q = c.args.request.now in
    let exact = c.if-request-address.false in
    let held = two-parts l q c.if-request-lt4.false exact c.split_at.ensures.front c.split_at.ensures.back in
    (memory-too-long l q c.if-request-lt4.false exact c.if-address-lt1.false c.if-size-lt1.false (c.in-Some.ensures ∙ held) c.if-place-gt4094.true, tt)

pub returns : goal.returns
returns c =
    let l = c.args.store.now in
    let q = c.args.request.now in
    let exact = c.if-request-address.false in
    let held = two-parts l q c.if-request-lt4.false exact c.split_at.ensures.front c.split_at.ensures.back in
    (memory-granted l q c.if-request-lt4.false exact c.if-address-lt1.false c.if-size-lt1.false (c.in-Some.ensures ∙ held) c.if-place-gt4094.false, tt)
