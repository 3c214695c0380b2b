-- Document 01, "The log and `udslog`": the line that is printed.
use Rattle.std.specs.Prelude.{ℕ, zero, suc, ◌+◌, ◌/◌, ◌%◌, cond, List, [], ◌∷◌, ◌++◌, ltb}
use Prim.Native.Char.{code}
use Prim.Native.String.{String}
use Prim.Native.String as Text
use Rattle.rules.specs.Answers.{deviation, deviation8, bad_length, overflow, Outcome, positive, suppressed, negative, timeout, pending_limit, disconnected, transport, fault, refused, Answer}
use Rattle.rules.specs.Bytes.{two}

abbrev pub ascii : String → List ℕ
ascii Text.[] = []
ascii (Text.◌∷◌ c t) = code c ∷ ascii t

-- The digits 0 to 9 and a to f.
abbrev pub digit : ℕ → ℕ
digit d = cond (ltb d 10) (d + 48) (d + 87)

-- Decimal, of at most n + 1 digits.
unfoldable pub decimal_to : ℕ → ℕ → List ℕ
decimal_to zero v = digit v ∷ []
decimal_to (suc n) v = let more = decimal_to n (v / 10) ++ (digit (v % 10) ∷ []) in cond (ltb v 10) (digit v ∷ []) more

-- 20 digits: every number below 2^64.
abbrev pub decimal : ℕ → List ℕ
decimal v = decimal_to 19 v

abbrev pub hex : List ℕ → List ℕ
hex [] = []
hex (b ∷ bs) = digit (b / 16) ∷ digit (b % 16) ∷ hex bs

abbrev pub word : Outcome → String
word (positive p) = "positive"
word suppressed = "suppressed"
word (negative c) = "negative"
word timeout = "timeout"
word pending_limit = "pendinglimit"
word disconnected = "disconnected"
word (transport n) = "transport"
word (fault (deviation n)) = "deviation"
word (fault (deviation8 least most)) = "deviation"
word (fault bad_length) = "length"
word (fault overflow) = "overflow"
word (refused n) = "refused"

-- "data; code; error number (4 digits); deviation number (2) and reply, unspaced; the reply for overflow; refusal number (2)", as bytes.
abbrev pub detail : Outcome → List ℕ → List ℕ
detail (positive p) reply = p.bytes
detail suppressed reply = []
detail (negative c) reply = c ∷ []
detail timeout reply = []
detail pending_limit reply = []
detail disconnected reply = []
detail (transport n) reply = two n
detail (fault (deviation n)) reply = n ∷ reply
detail (fault (deviation8 least most)) reply = 8 ∷ reply
detail (fault bad_length) reply = []
detail (fault overflow) reply = reply
detail (refused n) reply = n ∷ []

-- "otherwise or if empty `-`"
abbrev pub hex_or_dash : List ℕ → List ℕ
hex_or_dash [] = ascii "-"
hex_or_dash (b ∷ bs) = hex (b ∷ bs)

abbrev pub spaced : List ℕ → List ℕ
spaced bs = 32 ∷ bs

-- "outcome, finishing time, events read, notices, detail" and a newline.
unfoldable pub line : Answer → List ℕ
line x =
    ascii (word x.outcome) ++
    spaced (decimal x.time) ++
    spaced (decimal x.events) ++
    spaced (decimal x.notices) ++
    spaced (hex_or_dash (detail x.outcome x.reply.bytes)) ++
    (10 ∷ [])

-- "Any other layout prints `badlog 0 0 0 -`"
abbrev pub badlog : List ℕ
badlog = ascii "badlog 0 0 0 -" ++ (10 ∷ [])
