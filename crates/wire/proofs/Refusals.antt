-- A refusal is told by its number, and an answer by its value or the refusal's number.
use Prim.Native.Nat.{ℕ, ◌-◌}
use mathlib.Core.List.{[], ◌∷◌}
use mathlib.Core.Path.{◌≡◌, refl, sym, ◌∙◌, ap}
use lib.ListN.{get_or}
use Rattle.std.specs.Prelude.{Result, Ok, Err}
use Rattle.wire.specs.declared.refusal.Refusal.{Refusal}
use Rattle.wire.specs.declared.refusal.Refusal.TheVariants as refusal
use Rattle.wire.specs.Refusing.{refusal_number, numbered}

-- The refusal of a number.
abbrev pub refusal_of : ℕ → Refusal
refusal_of n = get_or
    (refusal.KeyWithoutData ∷ refusal.AddressLength ∷ refusal.SizeLength ∷ refusal.Compression ∷ refusal.Encryption ∷ refusal.Width ∷ refusal.ValueTooWide ∷ refusal.RequestTooLong ∷ refusal.RequestRoom ∷ refusal.Events ∷ refusal.BlockLength ∷ refusal.BlockNumber ∷ refusal.ReplyRoom ∷ refusal.UnreadableLine ∷ refusal.NoRequest ∷ refusal.TimeGoesBack ∷ refusal.TooManyEvents ∷ refusal.Header ∷ refusal.Arguments ∷ refusal.GoingBack ∷ refusal.Settled ∷ refusal.BookFull ∷ refusal.BadLog ∷ refusal.NoSuchLog ∷ refusal.NoBook ∷ [])
    (n - 1)
    refusal.NoBook

pub refusal-back : (r : Refusal) → refusal_of (refusal_number r) ≡ r
refusal-back refusal.KeyWithoutData = refl
refusal-back refusal.AddressLength = refl
refusal-back refusal.SizeLength = refl
refusal-back refusal.Compression = refl
refusal-back refusal.Encryption = refl
refusal-back refusal.Width = refl
refusal-back refusal.ValueTooWide = refl
refusal-back refusal.RequestTooLong = refl
refusal-back refusal.RequestRoom = refl
refusal-back refusal.Events = refl
refusal-back refusal.BlockLength = refl
refusal-back refusal.BlockNumber = refl
refusal-back refusal.ReplyRoom = refl
refusal-back refusal.UnreadableLine = refl
refusal-back refusal.NoRequest = refl
refusal-back refusal.TimeGoesBack = refl
refusal-back refusal.TooManyEvents = refl
refusal-back refusal.Header = refl
refusal-back refusal.Arguments = refl
refusal-back refusal.GoingBack = refl
refusal-back refusal.Settled = refl
refusal-back refusal.BookFull = refl
refusal-back refusal.BadLog = refl
refusal-back refusal.NoSuchLog = refl
refusal-back refusal.NoBook = refl

pub same-refusal : (r s : Refusal) → refusal_number r ≡ refusal_number s → r ≡ s
same-refusal r s e = sym (refusal-back r) ∙ ap refusal_of e ∙ refusal-back s

abbrev answer_of : {A : Type 0} → Result A ℕ → Result A Refusal
answer_of (Ok x) = Ok x
answer_of (Err n) = Err (refusal_of n)

answer-back : {A : Type 0} → (r : Result A Refusal) → answer_of (numbered r) ≡ r
answer-back (Ok x) = refl
answer-back (Err r) = ap Err (refusal-back r)

-- At most one answer has this value, or this number.
pub same-answer : {A : Type 0} → (r s : Result A Refusal) → numbered r ≡ numbered s → r ≡ s
same-answer r s e = sym (answer-back r) ∙ ap answer_of e ∙ answer-back s
