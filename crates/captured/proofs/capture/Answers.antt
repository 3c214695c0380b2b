-- `capture` meets its contract.
use Prim.Native.Nat.{ℕ, ◌/◌}
use borrow.Author.Rules.{rules}
use mathlib.Core.Bool.{true}
use mathlib.Core.List.{List}
use mathlib.Core.Path.{◌≡◌, refl, sym, ◌∙◌, ap}
use lib.ListN.{length}
use Rattle.rules.specs.Events.{plain, Entry, entries}
use Rattle.rules.specs.Logs.{Header, header_of, argument_bytes}
use Rattle.rules.proofs.Laying.{entries-length}
use Rattle.logs.specs.Layout.{said}
use Rattle.logs.specs.declared.header.Header as Code
use Rattle.std.specs.Prelude.{Some}
use Rattle.mend.specs.Recounted as Recounted
use Rattle.mend.specs.Recounted.{recounted}
use Rattle.captured.specs.Capture.{is_call}
use Rattle.captured.proofs.Putting.{no_call, too_long, Recounts, recounts, places, written}
use Rattle.captured.proofs.capture.Goals as goal
use Rattle.captured.proofs.capture.Goals.{After-recount}

pub returns-then-not-is_call : goal.returns-then-not-is_call
returns-then-not-is_call c =
    let x = c.args in
    no_call x.call.now (entries plain x.events.now) x.replies.now x.out.now (sym c.is_call.ensures ∙ c.if-not-is_call.true)

-- What was recounted is the header of the call.
module _ (c : After-recount) where
  abbrev call : List ℕ
  call = c.args.call.now

  abbrev es : List Entry
  es = entries plain c.args.events.now

  abbrev rs : List ℕ
  rs = c.args.replies.now

  sound : is_call call ≡ true
  sound = sym c.is_call.ensures ∙ c.if-not-is_call.false

  recount-is : Recounted.header_of c.recount.result ≡ recounted (header_of call) (length es) (length rs)
  recount-is =
      let n = c.event_count.ensures ∙ sym (entries-length plain c.args.events.now (length c.args.events.now / 10) 0) in
      c.recount.ensures ∙ (λ i. recounted (c.read_header-old.ensures i) (n i) (length rs))

  new_is : (new : Code.Header) → c.recount.result ≡ Some new → Recounts call es rs c.args.out.now sound (said new)
  new_is new e = recounts call es rs c.args.out.now sound (ap Recounted.header_of (sym e) ∙ recount-is)

pub returns-in_default : goal.returns-in_default
returns-in_default c =
    let m = (goal.at.returns-in_default c).After-recount in
    too_long (call m) (es m) (rs m) c.args.out.now (sound m) (ap Recounted.header_of (sym c.in_default.is) ∙ recount-is m)

pub put_log-requires : goal.put_log-requires
put_log-requires c =
    let m = (goal.at.put_log-requires c).After-recount in
    let arguments : c.read_area-arguments.result.now ≡ argument_bytes (header_of (call m)) (call m) =
    c.read_area-arguments.ensures ∙ ap (λ (g : Header). argument_bytes g (call m)) c.read_header-old.ensures in
    rw arguments (places (call m) (es m) (rs m) c.args.out.now (sound m) (new_is m c.in-Some.new c.in-Some.is))

pub returns : goal.returns
returns c =
    let m = (goal.at.returns c).After-recount in
    let arguments : c.read_area-arguments.result.now ≡ argument_bytes (header_of (call m)) (call m) =
    c.read_area-arguments.ensures ∙ ap (λ (g : Header). argument_bytes g (call m)) c.read_header-old.ensures in
    written (call m) (es m) (rs m) c.args.out.now (sound m) (new_is m c.in-Some.new c.in-Some.is) refl (search rules) (rw arguments at c.put_log.ensures)
