-- One reply at time 0, or none, is a conversation: a negative of any code but 78, a row's positive, silence under suppression.
use Prim.Native.Nat.{ℕ, ◌+◌, max}
use native.Mathlib.Omega.{arith}
use mathlib.Core.Bool.{Bool, true, false, cond, not, true≢false}
use mathlib.Core.Path.{◌≡◌, refl, sym, ◌∙◌, subst}
use mathlib.Core.Logic.{◌≢◌, inl, inr}
use mathlib.Core.List.{List, [], ◌∷◌, ◌++◌}
use lib.Dec.{eqb}
use lib.ListN.{length}
use borrow.Author.Tests.{eqb-false, not-true}
use Rattle.rules.specs.Answers.{part, Outcome, positive, suppressed, negative, answer, nowhere}
use Rattle.rules.specs.Calls.{Call, sid_of}
use Rattle.rules.specs.Conversations.{none, Closing, by_negative, by_positive, Conversation}
use Rattle.rules.specs.Events.{reply}
use Rattle.rules.specs.Positives.{Positive}
use Rattle.rules.specs.Settings.{Setting, suppressing}
use Rattle.rules.proofs.Judging.{Pass}
use Rattle.rules.proofs.Within.{within-zero}
use Rattle.bench.specs.Promise.{sends, at_once, expected, Roomy}
use Rattle.bench.specs.Responder.{Row, checks, Decision, refuses, grants, keeps_silent, judged, response_to}
use Rattle.bench.proofs.Tests.{judge-tested}

-- What the responder decides is no refusal of the buffer.
pub some-room : (q : List ℕ) (x : Decision) → Roomy (response_to q x)
some-room q (refuses code) = tt
some-room q (grants head d) = tt
some-room q keeps_silent = tt

module _ (w : Setting) (c : Call) where
  -- Under suppression a negative waits until P2.
  waited : (b : Bool) (p2 : ℕ) → cond b p2 0 ≡ cond b (max 0 p2) 0
  waited true p2 = omega arith
  waited false p2 = refl

  by-negative : (code : ℕ) → code ≢ 0x78
      → Conversation w c (reply 0 (part 0 (0x7f ∷ sid_of c ∷ code ∷ [])) ∷ []) (answer (negative code) (cond (suppressing w c) w.timing.p2 0) 1 0 (part 0 (0x7f ∷ sid_of c ∷ code ∷ [])))
  by-negative code n = inl (record {
    before = [];
    times = [];
    at = 0;
    rest = [];
    begins = refl;
    waits = none;
    paced = (omega arith, tt);
    closes = by_negative n refl;
    time = waited (suppressing w c) w.timing.p2;
    events = refl;
    notices = refl;
    patient = within-zero w.limit;
  })

  by-positive : (head d : List ℕ) → Positive c head d → suppressing w c ≡ false
      → Conversation w c (reply 0 (part 0 (head ++ d)) ∷ []) (answer (positive (part (length head) d)) 0 1 0 (part 0 (head ++ d)))
  by-positive head d row loud = inl (record {
    before = [];
    times = [];
    at = 0;
    rest = [];
    begins = refl;
    waits = none;
    paced = (omega arith, tt);
    closes =
        let at : 0 + length head ≡ length head = omega arith in
        subst (λ (i : ℕ). Closing w c [] (part 0 (head ++ d)) (positive (part i d))) at
        (by_positive head d row (λ e. absurd (true≢false (sym e ∙ loud))) refl);
    time = rw loud refl;
    events = refl;
    notices = refl;
    patient = within-zero w.limit;
  })

  by-silence : suppressing w c ≡ true → Conversation w c [] (answer suppressed w.timing.p2 0 0 nowhere)
  by-silence e = inr (record { asked = e; hush = tt; outcome = refl; time = refl; events = refl; notices = refl; reply = refl })

  abbrev pub Converses : Decision → Type 0
  Converses x = Conversation w c (at_once (response_to (sends w c) x)) (expected w c x)

  -- Whatever a row decides, if its positive is the call's. (No code of the checks is 78.)
  pub judged-converses : (r : Row) (n : ℕ) → r.hushed ≡ suppressing w c → (Pass (checks r n) → Positive c r.head r.payload) → Converses (judged r n)
  judged-converses r n same shows =
      judge-tested (λ code. not (eqb code 0x78)) Converses refuses (checks r n) _ refl
      (λ code h. by-negative code (eqb-false code 0x78 (not-true (eqb code 0x78) h)))
      (λ p. go r.hushed (sym same) (shows p))
    where
      go : (b : Bool) → suppressing w c ≡ b → Positive c r.head r.payload → Converses (cond b keeps_silent (grants r.head r.payload))
      go true e h = by-silence e
      go false e h = by-positive r.head r.payload h e
