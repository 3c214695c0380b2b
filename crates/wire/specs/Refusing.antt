-- The refusals by their numbers, as documents 01 and 02 give them.
use Rattle.std.specs.Prelude.{ℕ, Result, Ok, Err}
use Rattle.wire.specs.declared.refusal.Refusal.{Refusal}
use Rattle.wire.specs.declared.refusal.Refusal.TheVariants as refusal

-- "Refusal numbers"
abbrev pub refusal_number : Refusal → ℕ
refusal_number refusal.KeyWithoutData = 1
refusal_number refusal.AddressLength = 2
refusal_number refusal.SizeLength = 3
refusal_number refusal.Compression = 4
refusal_number refusal.Encryption = 5
refusal_number refusal.Width = 6
refusal_number refusal.ValueTooWide = 7
refusal_number refusal.RequestTooLong = 8
refusal_number refusal.RequestRoom = 9
refusal_number refusal.Events = 10
refusal_number refusal.BlockLength = 11
refusal_number refusal.BlockNumber = 12
refusal_number refusal.ReplyRoom = 13
refusal_number refusal.UnreadableLine = 14
refusal_number refusal.NoRequest = 15
refusal_number refusal.TimeGoesBack = 16
refusal_number refusal.TooManyEvents = 17
refusal_number refusal.Header = 18
refusal_number refusal.Arguments = 19
refusal_number refusal.GoingBack = 20
refusal_number refusal.Settled = 21
refusal_number refusal.BookFull = 22
refusal_number refusal.BadLog = 23
refusal_number refusal.NoSuchLog = 24
refusal_number refusal.NoBook = 25

-- An answer, or the number of its refusal.
abbrev pub numbered : {A : Type 0} → Result A Refusal → Result A ℕ
numbered (Ok x) = Ok x
numbered (Err r) = Err (refusal_number r)
