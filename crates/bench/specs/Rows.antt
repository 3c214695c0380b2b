-- Rows: talks with `udsbench`, line by line; stores whose layout is off by one place; what stands afterwards in buffer and store.
use Rattle.std.specs.Prelude.{ℕ, ◌+◌, ◌*◌, ◌/◌, ◌%◌, Bool, true, false, ◌≡◌, List, [], ◌∷◌, ◌++◌, map, length, set, take, drop, replicate}
use Prim.Native.String.{String}
use Rattle.rules.specs.Bytes.{two, four}
use Rattle.rules.specs.Lines.{ascii}
use Rattle.bench.specs.Stores.{Slot, slot, Store, store_of, store_ok}
use Rattle.bench.specs.Responder.{replied, silent, refused, Responded, responded, respond}
use Rattle.bench.specs.Talk.{unhex, newline, lines_of, answers, output}

-- Bytes by their hex digits.
abbrev pub bytes : String → List ℕ
bytes text = unhex (ascii text)

abbrev pub put_slots : List Slot → List ℕ
put_slots [] = []
put_slots (e ∷ es) = two e.id ++ two e.offset ++ two e.size ++ put_slots es

-- A store as bytes, with these counts of record, memory and fault bytes.
abbrev pub put_store_with : Store → ℕ → ℕ → ℕ → ℕ → List ℕ
put_store_with s n records memory faults =
    (0 ∷ 1 ∷ s.mask ∷ s.format ∷ s.session) ++
    (s.power_down ∷ 0 ∷ four (s.first / 4294967296)) ++
    four (s.first % 4294967296) ++
    two n ++
    two 36 ++
    two records ++
    two (36 + n * 6) ++
    two memory ++
    two (36 + n * 6 + records) ++
    two (faults / 4) ++
    two (36 + n * 6 + records + memory) ++
    two (36 + n * 6 + records + memory + faults) ++
    put_slots s.slots ++
    s.records ++
    s.memory ++
    s.faults

abbrev pub put_store : Store → List ℕ
put_store s = put_store_with s (length s.slots) (length s.records) (length s.memory) (length s.faults)

-- The store of the page.
unfoldable pub file : List ℕ
file = bytes "00012f01003201f40a0000000000200010000002002400040030000800340002003c0044f19000000003010200030001414243aa1011121314151617010203010a0b0c2f"

unfoldable pub page : Store
page = record {
  mask = 0x2f;
  format = 0x01;
  session = 0x00 ∷ 0x32 ∷ 0x01 ∷ 0xf4 ∷ [];
  power_down = 0x0a;
  first = 0x20001000;
  slots = slot 0xf190 0 3 ∷ slot 0x0102 3 1 ∷ [];
  records = 0x41 ∷ 0x42 ∷ 0x43 ∷ 0xaa ∷ [];
  memory = 0x10 ∷ 0x11 ∷ 0x12 ∷ 0x13 ∷ 0x14 ∷ 0x15 ∷ 0x16 ∷ 0x17 ∷ [];
  faults = 0x01 ∷ 0x02 ∷ 0x03 ∷ 0x01 ∷ 0x0a ∷ 0x0b ∷ 0x0c ∷ 0x2f ∷ [];
}

-- A line and its answer.
pub record Row : Type 0 where
  pub asks : String
  pub gets : String

abbrev pub ◌⇒◌ : String → String → Row
asks ⇒ gets = record { asks = asks; gets = gets }

infixr 20 ◌⇒◌
abbrev pub asked : List Row → List (List ℕ)
asked rows = map (λ r. ascii r.asks) rows

abbrev pub gotten : List Row → List ℕ
gotten [] = []
gotten (r ∷ rs) = ascii r.gets ++ newline ++ gotten rs

-- A talk goes like this: the lines in their order, on one store.
abbrev pub Talks : List ℕ → List Row → Type 0
Talks l rows = answers l (asked rows) ≡ gotten rows

-- The table of the page.
unfoldable pub examples : List Row
examples =
    ("1003" ⇒ "5003003201f4") ∷
    ("1083" ⇒ "-") ∷
    ("1085" ⇒ "7f1012") ∷
    ("22f190" ⇒ "62f190414243") ∷
    ("22f19" ⇒ "badrequest") ∷
    ("2e0102bb" ⇒ "6e0102") ∷
    ("220102" ⇒ "620102bb") ∷
    ("2e0102cc 2" ⇒ "refused 13") ∷
    ("220102" ⇒ "620102bb") ∷
    ("23142000100003" ⇒ "63101112") ∷
    ("231420001000" ⇒ "7f2313") ∷
    ("1901ff" ⇒ "59012f010002") ∷
    ("3e80" ⇒ "-") ∷
    ("" ⇒ "-") ∷
    ("2701" ⇒ "7f2711") ∷ []

-- The order of the checks: the first that fails gives the code.
unfoldable pub order : List Row
order =
    ("27" ⇒ "7f2711") ∷
    ("7f" ⇒ "7f7f11") ∷
    ("62f190" ⇒ "7f6211") ∷
    ("00" ⇒ "7f0011") ∷
    ("10" ⇒ "7f1013") ∷
    ("11" ⇒ "7f1113") ∷
    ("3e" ⇒ "7f3e13") ∷
    ("19" ⇒ "7f1913") ∷
    ("22" ⇒ "7f2213") ∷
    ("22f1" ⇒ "7f2213") ∷
    ("2e" ⇒ "7f2e13") ∷
    ("2e5555" ⇒ "7f2e13") ∷
    ("2ef190" ⇒ "7f2e13") ∷
    ("23" ⇒ "7f2313") ∷
    ("2300" ⇒ "7f2313") ∷
    ("230100" ⇒ "7f2313") ∷
    ("100500" ⇒ "7f1012") ∷
    ("1902" ⇒ "7f1912") ∷
    ("190200" ⇒ "7f1912") ∷
    ("100100" ⇒ "7f1013") ∷
    ("110100" ⇒ "7f1113") ∷
    ("3e0000" ⇒ "7f3e13") ∷
    ("1901" ⇒ "7f1913") ∷
    ("19012000" ⇒ "7f1913") ∷
    ("225555" ⇒ "7f2231") ∷
    ("22555500" ⇒ "7f2213") ∷
    ("22f190f190" ⇒ "7f2213") ∷
    ("2e555501" ⇒ "7f2e31") ∷
    ("2e55550102" ⇒ "7f2e31") ∷
    ("2ef19001" ⇒ "7f2e13") ∷
    ("2ef19001020304" ⇒ "7f2e13") ∷
    ("23011000" ⇒ "7f2313") ∷
    ("2302100000" ⇒ "7f2313") ∷
    ("2314200010000300" ⇒ "7f2313") ∷
    ("22f190" ⇒ "62f190414243") ∷ []

-- Sub-functions, without bit 7: what is served, and silence under suppression; "A negative is sent under suppression too."
unfoldable pub sub_functions : List Row
sub_functions =
    ("1000" ⇒ "7f1012") ∷
    ("1001" ⇒ "5001003201f4") ∷
    ("1004" ⇒ "5004003201f4") ∷
    ("1005" ⇒ "7f1012") ∷
    ("1080" ⇒ "7f1012") ∷
    ("1081" ⇒ "-") ∷
    ("1084" ⇒ "-") ∷
    ("1085" ⇒ "7f1012") ∷
    ("108100" ⇒ "7f1013") ∷
    ("1100" ⇒ "7f1112") ∷
    ("1101" ⇒ "5101") ∷
    ("1103" ⇒ "5103") ∷
    ("1104" ⇒ "51040a") ∷
    ("1105" ⇒ "7f1112") ∷
    ("1184" ⇒ "-") ∷
    ("1185" ⇒ "7f1112") ∷
    ("3e00" ⇒ "7e00") ∷
    ("3e01" ⇒ "7f3e12") ∷
    ("3e80" ⇒ "-") ∷
    ("3e81" ⇒ "7f3e12") ∷
    ("1900ff" ⇒ "7f1912") ∷
    ("1981ff" ⇒ "-") ∷
    ("1982ff" ⇒ "7f1912") ∷
    ("228102" ⇒ "7f2231") ∷ []

-- Counts, memory and records: what the store holds; each beside what it does not.
unfoldable pub holdings : List Row
holdings =
    ("190100" ⇒ "59012f010000") ∷
    ("190101" ⇒ "59012f010002") ∷
    ("190120" ⇒ "59012f010001") ∷
    ("1901d0" ⇒ "59012f010000") ∷
    ("23142000100000" ⇒ "7f2331") ∷
    ("23142000100800" ⇒ "7f2331") ∷
    ("23142000100001" ⇒ "6310") ∷
    ("23142000100701" ⇒ "6317") ∷
    ("23142000100801" ⇒ "7f2331") ∷
    ("23142000100702" ⇒ "7f2331") ∷
    ("23142000100008" ⇒ "631011121314151617") ∷
    ("23142000100009" ⇒ "7f2331") ∷
    ("23142000100107" ⇒ "6311121314151617") ∷
    ("23142000100108" ⇒ "7f2331") ∷
    ("231420000fff01" ⇒ "7f2331") ∷
    ("231420000fff02" ⇒ "7f2331") ∷
    ("2324200010000003" ⇒ "63101112") ∷
    ("2315002000100202" ⇒ "631213") ∷
    ("23021000" ⇒ "7f2331") ∷
    ("23200001" ⇒ "7f2331") ∷
    ("231901000000002000100001" ⇒ "7f2331") ∷
    ("2394200010000000000000000000000102" ⇒ "7f2313") ∷
    ("239420001000010000000000000001" ⇒ "7f2331") ∷
    ("239420001000000000000000000001" ⇒ "6310") ∷
    ("220102" ⇒ "620102aa") ∷
    ("2ef190616263" ⇒ "6ef190") ∷
    ("22f190" ⇒ "62f190616263") ∷
    ("220102" ⇒ "620102aa") ∷
    ("2e0102ff" ⇒ "6e0102") ∷
    ("220102" ⇒ "620102ff") ∷
    ("22f190" ⇒ "62f190616263") ∷ []

-- Room for the reply: "a reply buffer shorter than the reply is refused with 13", a negative's too; silence needs none.
unfoldable pub rooms : List Row
rooms =
    ("1081 0" ⇒ "-") ∷
    (" 0" ⇒ "-") ∷
    ("1085 2" ⇒ "refused 13") ∷
    ("1085 3" ⇒ "7f1012") ∷
    ("1003 5" ⇒ "refused 13") ∷
    ("1003 6" ⇒ "5003003201f4") ∷
    ("2ef190000000 2" ⇒ "refused 13") ∷
    ("22f190" ⇒ "62f190414243") ∷
    ("2ef190000000 3" ⇒ "6ef190") ∷
    ("22f190" ⇒ "62f190000000") ∷ []

-- Lines: hex of either case, one space, a number of 1 to 4 digits up to 4095, a CR last.
unfoldable pub lines : List Row
lines =
    ("22F190" ⇒ "62f190414243") ∷
    ("22f190\r" ⇒ "62f190414243") ∷
    ("\r" ⇒ "-") ∷
    ("22f190\r\r" ⇒ "badrequest") ∷
    ("\r22f190" ⇒ "badrequest") ∷
    ("22f190 4095\r" ⇒ "62f190414243") ∷
    ("22f190 4096" ⇒ "badrequest") ∷
    ("22f190 9999" ⇒ "badrequest") ∷
    ("22f190 0005" ⇒ "refused 13") ∷
    ("22f190 0012" ⇒ "62f190414243") ∷
    ("22f190 21" ⇒ "62f190414243") ∷
    ("22f190 00006" ⇒ "badrequest") ∷
    ("22f190 " ⇒ "badrequest") ∷
    ("22f190  6" ⇒ "badrequest") ∷
    ("22f190 6 " ⇒ "badrequest") ∷
    ("22f190\t6" ⇒ "badrequest") ∷
    ("22f190 6a" ⇒ "badrequest") ∷
    ("22f190 /" ⇒ "badrequest") ∷
    ("22f190 :" ⇒ "badrequest") ∷
    ("22f190 9" ⇒ "62f190414243") ∷
    ("22 f190" ⇒ "badrequest") ∷
    ("2" ⇒ "badrequest") ∷
    ("/0" ⇒ "badrequest") ∷
    (":0" ⇒ "badrequest") ∷
    ("@0" ⇒ "badrequest") ∷
    ("G0" ⇒ "badrequest") ∷
    ("`0" ⇒ "badrequest") ∷
    ("g0" ⇒ "badrequest") ∷
    ("0g" ⇒ "badrequest") ∷
    ("0aAfF9" ⇒ "7f0a11") ∷
    ("af" ⇒ "7faf11") ∷
    ("FA" ⇒ "7ffa11") ∷
    ("09" ⇒ "7f0911") ∷
    ("90" ⇒ "7f9011") ∷
    ("x" ⇒ "badrequest") ∷ []

-- "a request over 4,095 bytes": one of 4,095 is none.
abbrev pub Longest : Type 0
Longest =
    answers file (replicate 8190 48 ∷ replicate 8192 48 ∷ (replicate 8192 48 ++ (13 ∷ [])) ∷ []) ≡ ascii "7f0011\nbadrequest\nbadrequest\n"

-- Lines of an input: the last may lack its LF, and behind the last LF there is none.
abbrev pub Inputs : Type 0
Inputs =
    (output file [] ≡ []) ×
    (output file (ascii "\n") ≡ ascii "-\n") ×
    (output file (ascii "3e00\n3e00") ≡ ascii "7e00\n7e00\n") ×
    (output file (ascii "3e00\r\n\n1101\n") ≡ ascii "7e00\n-\n5101\n") ×
    (output file (ascii "2e0102bb\n220102\n") ≡ ascii "6e0102\n620102bb\n") ×
    (output (take 67 file) (ascii "3e00\n") ≡ ascii "badstore\n")

-- A record of 4,092 bytes, one of 4,093, an empty one, one outside; the memory's end passes 2^64.
unfoldable pub large : List ℕ
large =
    put_store
    (record {
      mask = 0;
      format = 0;
      session = 1 ∷ 2 ∷ 3 ∷ 4 ∷ [];
      power_down = 0;
      first = 0xffffffffffffffff;
      slots = slot 1 0 4092 ∷ slot 2 0 4093 ∷ slot 3 0 0 ∷ slot 3 0 1 ∷ slot 4 4093 1 ∷ slot 5 4092 1 ∷ [];
      records = replicate 4093 7;
      memory = replicate 4095 8;
      faults = [];
    })

-- The first bytes of each answer.
abbrev pub fronts : List ℕ → List String → List (List ℕ)
fronts l [] = []
fronts l (line ∷ lines) = take 6 (answers l (ascii line ∷ [])) ∷ fronts l lines

abbrev pub Larges : Type 0
Larges =
    (fronts large
    ("220001" ∷
    "220002" ∷
    "220003" ∷
    "220004" ∷
    "220005" ∷
    "232900ffffffffffffffff0ffe" ∷
    "232900ffffffffffffffff0fff" ∷
    "232900ffffffffffffffff1000" ∷
    "231901000000000000000001" ∷
    "2318000000000000000001" ∷ [])
    ≡ map ascii ("620001" ∷ "7f2214" ∷ "7f2231" ∷ "7f2231" ∷ "620005" ∷ "630808" ∷ "7f2314" ∷ "7f2331" ∷ "6308\n" ∷ "7f2331" ∷ [])) ×
    (length (answers large (ascii "220001" ∷ [])) ≡ 8191) ×
    (length (answers large (ascii "232900ffffffffffffffff0ffe" ∷ [])) ≡ 8191)

-- A store whose layout is right: what it says; without identifiers, memory and faults; the same identifier twice, and shared bytes.
abbrev pub SoundStores : Type 0
SoundStores =
    (put_store page ≡ file) ×
    (store_of file ≡ page) ×
    (store_ok file ≡ true) ×
    (store_ok (bytes "000100000000000000000000000000000000000000240000002400000024000000240024") ≡ true) ×
    (store_ok (set (set file 36 0x01) 37 0x02) ≡ true) ×
    (store_ok (set file 45 2) ≡ true) ×
    (store_ok large ≡ false)

-- The page's store with one byte changed: no store.
pub record Change : Type 0 where
  pub at : ℕ
  pub to : ℕ

abbrev pub ◌at◌ : ℕ → ℕ → Change
to at i = record { at = i; to = to }

infixr 20 ◌at◌
abbrev pub changed : List Change → List Bool
changed cs = map (λ c. store_ok (set file c.at c.to)) cs

unfoldable pub damages : List Change
damages =
    (1 at 0) ∷
    (2 at 1) ∷
    (0 at 1) ∷
    (1 at 9) ∷
    (1 at 18) ∷
    (3 at 19) ∷
    (1 at 20) ∷
    (0x25 at 21) ∷
    (3 at 23) ∷
    (5 at 23) ∷
    (0x31 at 25) ∷
    (7 at 27) ∷
    (9 at 27) ∷
    (0x35 at 29) ∷
    (1 at 31) ∷
    (3 at 31) ∷
    (0x3d at 33) ∷
    (0x43 at 35) ∷
    (0x45 at 35) ∷
    (0 at 41) ∷
    (5 at 41) ∷
    (1 at 40) ∷
    (2 at 39) ∷
    (4 at 45) ∷
    (2 at 47) ∷
    (0 at 47) ∷ []

abbrev pub Damages : Type 0
Damages =
    (changed damages ≡ map (λ c. false) damages) ×
    (store_ok (file ++ (0 ∷ [])) ≡ false) ×
    (store_ok (take 67 file) ≡ false) ×
    (store_ok [] ≡ false)

-- What stands afterwards in buffer and store; and stores that are no store, of which the responder makes what it can.
abbrev pub room8 : List ℕ
room8 = replicate 8 0xee

abbrev pub Afterwards : Type 0
Afterwards =
    (respond file (0x10 ∷ 0x03 ∷ []) room8 ≡ responded (replied (bytes "5003003201f4")) (bytes "5003003201f4eeee") file) ×
    (respond file (0x10 ∷ 0x83 ∷ []) room8 ≡ responded silent room8 file) ×
    (respond file [] [] ≡ responded silent [] file) ×
    (respond file (bytes "22f190") (replicate 5 0xee) ≡ responded (refused 13) (replicate 5 0xee) file) ×
    (respond file (bytes "2ef190616263") room8
    ≡ responded (replied (bytes "6ef190")) (bytes "6ef190eeeeeeeeee") (set (set (set file 48 0x61) 49 0x62) 50 0x63)) ×
    (respond file (bytes "2e010277") (replicate 3 0xee) ≡ responded (replied (bytes "6e0102")) (bytes "6e0102") (set file 51 0x77)) ×
    (respond file (bytes "2e010277") (replicate 2 0xee) ≡ responded (refused 13) (replicate 2 0xee) file) ×
    (respond [] (bytes "1004") room8 ≡ responded (replied (bytes "5004")) (bytes "5004eeeeeeeeeeee") []) ×
    (respond (take 6 file) (bytes "1003") room8 ≡ responded (replied (bytes "50030032")) (bytes "50030032eeeeeeee") (take 6 file)) ×
    (respond [] (bytes "1104") room8 ≡ responded (replied (bytes "510400")) (bytes "510400eeeeeeeeee") []) ×
    (respond (take 50 file) (bytes "22f190") room8 ≡ responded (replied (bytes "7f2231")) (bytes "7f2231eeeeeeeeee") (take 50 file)) ×
    (respond (take 51 file) (bytes "22f190") room8 ≡ responded (replied (bytes "62f190414243")) (bytes "62f190414243eeee") (take 51 file)) ×
    (respond (set file 21 42) (bytes "220102") room8 ≡ responded (replied (bytes "620102aa")) (bytes "620102aaeeeeeeee") (set file 21 42)) ×
    (respond (set file 21 42) (bytes "22f190") room8 ≡ responded (replied (bytes "7f2231")) (bytes "7f2231eeeeeeeeee") (set file 21 42)) ×
    (respond (set file 25 0) (bytes "2ef190000102") room8 ≡ responded (replied (bytes "6ef190")) (bytes "6ef190eeeeeeeeee") (set (set (set (set file 25 0) 0 0x00) 1 0x01) 2 0x02))

pub record Rows : Type 0 where
  pub examples-hold : Talks file examples
  pub order-holds : Talks file order
  pub sub-functions-hold : Talks file sub_functions
  pub holdings-hold : Talks file holdings
  pub rooms-hold : Talks file rooms
  pub lines-hold : Talks file lines
  pub longest : Longest
  pub inputs : Inputs
  pub larges : Larges
  pub sound-stores : SoundStores
  pub damages-hold : Damages
  pub afterwards : Afterwards
