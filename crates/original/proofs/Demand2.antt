-- Demand 2: every call of the Rust is the call of `rules`.
use Prim.Native.Nat.{ℕ}
use mathlib.Core.Bool.{Bool, true, false, cond}
use mathlib.Core.Path.{◌≡◌, refl, sym, ◌∙◌, ap}
use mathlib.Core.List.{List, [], ◌∷◌, ◌++◌}
use mathlib.Core.Option.{Option}
use lib.Dec.{leb}
use lib.ListN.{length}
use borrow.Author.Tests.{le-leb}
use Rattle.rules.specs.After.{after}
use Rattle.rules.specs.Answers.{Part, Outcome, positive, suppressed, negative, timeout, pending_limit, disconnected, transport, fault, refused}
use Rattle.rules.specs.Calls.{Call, request_of, sid_of, sub_of, with_bit7}
use Rattle.rules.specs.Client.{Result, refuse, answered, call, events_in}
use Rattle.rules.specs.Events.{within_limits}
use Rattle.rules.specs.Exchange.{exchange}
use Rattle.rules.specs.InOrder.{Check, unless, judge}
use Rattle.rules.specs.Refusals.{arguments}
use Rattle.rules.specs.Settings.{Setting, Lent}
use Rattle.rules.proofs.Judging.{Pass, judge-under, judge-pass}
use Rattle.rules.proofs.Limits.{limits}
use Rattle.original.specs.Rust.{World, world, Run, err, panics, world_of}
use Rattle.original.specs.Shown.{Fail, fail, told, messages, called}
use Rattle.original.specs.Demand2.{Domain, of_rust, Demand2}
use Rattle.original.proofs.Calls.{invoked}

-- Checks that pass where those before them do decide nothing.
judge-before : {B : Type 0} (wrong : ℕ → B) (cs ds : List (Check ℕ)) (x : B) → (Pass cs → Pass ds) → judge wrong (cs ++ ds) x ≡ judge wrong cs x
judge-before wrong [] ds x h = judge-pass wrong ds x (h tt)
judge-before wrong (c ∷ cs) ds x h = go c.test refl (λ e. judge-before wrong cs ds x (λ p. h (e, p)))
  where
    go : (b : Bool) → c.test ≡ b → (c.test ≡ true → judge wrong (cs ++ ds) x ≡ judge wrong cs x)
        → cond b (judge wrong (cs ++ ds) x) (wrong c.fault) ≡ cond b (judge wrong cs x) (wrong c.fault)
    go true e more = more e
    go false e more = refl

module _ (strict : Bool) (w : Setting) (c : Call) (l : Lent) (h : Domain w c l) where
  abbrev request : List ℕ
  request = request_of w.quiet c

  -- The refusals that the port adds.
  abbrev own : List (Check ℕ)
  own =
      unless (leb (length request) 4095) 8 ∷
      unless (leb (length request) (length l.buffer)) 9 ∷
      unless (within_limits l.form l.events l.replies) 10 ∷ []

  abbrev under : Option ℕ → Result
  under limit =
      answered w c l request
      (after strict c (exchange strict (record { sid = sid_of c; sub = with_bit7 w.quiet (sub_of c); timing = w.timing; limit = limit })
      w.overall (events_in l)))

  not_own : judge (refuse w l) (arguments c ++ own) (under w.limit) ≡ judge (refuse w l) (arguments c) (under w.limit)
  not_own =
      judge-before (refuse w l) (arguments c) own (under w.limit)
      (λ p. let f = h.fits p in (le-leb (length request) 4095 f.0, (le-leb (length request) (length l.buffer) f.1, (h.events, tt))))

  whole : of_rust strict w c l ≡ called c (call strict w c l)
  unfolding call
  whole =
      let s = limits l.form l.listens l.events l.replies h.events in
      invoked strict w.timing w.overall w.server_timing l (events_in l) s.rising' s.of-bytes w.quiet c h.typed
      ∙ ap (λ (limit : Option ℕ). judge (λ n. called c (refuse w l n)) (arguments c) (called c (under limit))) (sym h.unlimited)
      ∙ sym (judge-under (called c) (refuse w l) (arguments c) (under w.limit))
      ∙ ap (called c) (sym not_own)

pub demand2 : Demand2
demand2 = whole

-- The world in which a call of the Rust ends, told by what `rules` answers.
told-world : {A : Type 0} (answered : Part → World → Run Fail A) (hushed : World → Run Fail A) → ((p : Part) (w : World) → world_of (answered p w) ≡ w)
    → ((w : World) → world_of (hushed w) ≡ w) → (o : Outcome) (r : List ℕ) (w : World) → world_of (told answered hushed o r w) ≡ w
told-world answered hushed a h (positive p) r w = a p w
told-world answered hushed a h suppressed r w = h w
told-world answered hushed a h (negative n) r w = refl
told-world answered hushed a h timeout r w = refl
told-world answered hushed a h pending_limit r w = refl
told-world answered hushed a h disconnected r w = refl
told-world answered hushed a h (transport n) r w = refl
told-world answered hushed a h (fault f) r w = refl
told-world {A} answered hushed a h (refused n) r w = go (leb n 3)
  where
    go : (b : Bool) → world_of {A = A} (cond b (panics w) (err (fail (refused n) []) w)) ≡ w
    go true = refl
    go false = refl

pub called-world : (c : Call) (x : Result) → world_of (called c x) ≡ world x.answer.time (messages x.sent x.buffer) x.timing
called-world c x = told-world _ _ (λ p w. refl) (λ w. refl) x.answer.outcome x.answer.reply.bytes _
