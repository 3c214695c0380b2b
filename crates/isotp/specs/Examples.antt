-- Worked examples: the frames of one identifier, and what is told of them.
use Rattle.std.specs.Prelude.{ℕ, ◌+◌, ◌-◌, ◌*◌, cond, List, [], ◌∷◌, ◌++◌, map, ◌≡◌, ltb}
use Prim.Native.Char.{code}
use Prim.Native.String.{String}
use Prim.Native.String as Text
use Rattle.isotp.specs.Joining.{idle, Told, message, dropped, join}

-- The bytes of lowercase hex digits.
abbrev pub nibble : ℕ → ℕ
nibble c = cond (ltb c 58) (c - 48) (c - 87)

abbrev pub unhex : String → List ℕ
unhex Text.[] = []
unhex (Text.◌∷◌ c Text.[]) = []
unhex (Text.◌∷◌ c (Text.◌∷◌ d t)) = (nibble (code c) * 16 + nibble (code d)) ∷ unhex t

pub record Example : Type 0 where
  pub frames : List (List ℕ)
  pub told : List Told

abbrev pub gives : List (List ℕ) → List Told → Example
gives fs ts = record { frames = fs; told = ts }

unfoldable pub examples : List Example
examples =
    -- Single frames: padded, to eight bytes or not; length 0, above 7, beyond the bytes there; no data.
    gives (unhex "023e00" ∷ []) (message (unhex "3e00") ∷ []) ∷
    gives (unhex "023e00aa" ∷ []) (message (unhex "3e00") ∷ []) ∷
    gives (unhex "023e005555555555" ∷ []) (message (unhex "3e00") ∷ []) ∷
    gives (unhex "00" ∷ []) ([]) ∷
    gives (unhex "083e000000000000" ∷ []) ([]) ∷
    gives (unhex "033e00" ∷ []) ([]) ∷
    gives (unhex "" ∷ []) ([]) ∷
    -- A first frame and its consecutive ones; flow control and types 4 to F between; the last frame padded.
    gives (unhex "100962f190414243" ∷ unhex "21444546" ∷ []) (message (unhex "62f190414243444546") ∷ []) ∷
    gives (unhex "100962f190414243" ∷ unhex "300000" ∷ unhex "21444546aaaaaaaa" ∷ []) (message (unhex "62f190414243444546") ∷ []) ∷
    gives (unhex "100962f190414243" ∷ unhex "f0" ∷ unhex "45" ∷ unhex "21444546" ∷ []) (message (unhex "62f190414243444546") ∷ []) ∷
    gives (unhex "1008010203040506" ∷ unhex "210708" ∷ []) (message (unhex "0102030405060708") ∷ []) ∷
    -- First frames that are none: a length under 8, fewer than 8 bytes.
    gives (unhex "1007010203040506" ∷ unhex "2107" ∷ []) ([]) ∷
    gives (unhex "10080102030405" ∷ unhex "210607" ∷ []) ([]) ∷
    -- A wrong number; a frame sent twice; a frame lost before a short last one.
    gives (unhex "100962f190414243" ∷ unhex "22aabbcc" ∷ unhex "21444546" ∷ []) (dropped ∷ []) ∷
    gives (unhex "100f010203040506" ∷ unhex "210708090a0b0c0d" ∷ unhex "210708090a0b0c0d" ∷ unhex "220e0f" ∷ []) (dropped ∷ []) ∷
    gives (unhex "1016010203040506" ∷ unhex "210708090a0b0c0d" ∷ unhex "231516" ∷ []) (dropped ∷ []) ∷
    gives (unhex "1011010203040506" ∷ unhex "2208090a0b" ∷ []) (dropped ∷ []) ∷
    -- A short frame with the right number is passed over, and the next one has the wrong number; the same one again, whole, goes on.
    gives (unhex "1014010203040506" ∷ unhex "210102" ∷ unhex "220e0f1011121314" ∷ []) (dropped ∷ []) ∷
    gives (unhex "1014010203040506" ∷ unhex "210102" ∷ unhex "210708090a0b0c0d" ∷ unhex "220e0f1011121314" ∷ []) (message (unhex "0102030405060708090a0b0c0d0e0f1011121314") ∷ []) ∷
    gives (unhex "1008010203040506" ∷ unhex "2107" ∷ []) ([]) ∷
    -- Consecutive without a first, or after the end.
    gives (unhex "21444546" ∷ []) ([]) ∷
    gives (unhex "100962f190414243" ∷ unhex "21444546" ∷ unhex "21444546" ∷ []) (message (unhex "62f190414243444546") ∷ []) ∷
    -- A single or a first frame inside a message.
    gives (unhex "1014010203040506" ∷ unhex "023e00" ∷ unhex "2107" ∷ []) (dropped ∷ message (unhex "3e00") ∷ []) ∷
    gives (unhex "1014010203040506" ∷ unhex "100962f190414243" ∷ unhex "21444546" ∷ []) (dropped ∷ message (unhex "62f190414243444546") ∷ []) ∷
    -- 0 follows 15.
    gives
    (unhex "107b010203040506" ∷ unhex "210708090a0b0c0d" ∷ unhex "220e0f1011121314" ∷ unhex "2315161718191a1b" ∷ unhex "241c1d1e1f202122" ∷
    unhex "2523242526272829" ∷ unhex "262a2b2c2d2e2f30" ∷ unhex "2731323334353637" ∷ unhex "2838393a3b3c3d3e" ∷ unhex "293f404142434445" ∷
    unhex "2a464748494a4b4c" ∷ unhex "2b4d4e4f50515253" ∷ unhex "2c5455565758595a" ∷ unhex "2d5b5c5d5e5f6061" ∷ unhex "2e62636465666768" ∷
    unhex "2f696a6b6c6d6e6f" ∷ unhex "2070717273747576" ∷ unhex "217778797a7b" ∷ [])
    (message (unhex "0102030405060708090a0b0c0d0e0f101112131415161718191a1b1c1d1e1f202122232425262728" ++
    unhex "292a2b2c2d2e2f303132333435363738393a3b3c3d3e3f404142434445464748494a4b4c4d4e4f50" ++
    unhex "5152535455565758595a5b5c5d5e5f606162636465666768696a6b6c6d6e6f707172737475767778797a7b") ∷ []) ∷
    []

abbrev pub Examples : Type 0
Examples = map (λ (x : Example). join idle x.frames) examples ≡ map (λ (x : Example). x.told) examples
