-- What is written is of bytes where what is read is.
use Prim.Native.Nat.{ℕ, ◌+◌, ◌*◌, ◌/◌, ◌%◌, ◌≤◌, ◌<◌}
use native.Mathlib.Omega.{arith}
use mathlib.Core.Bool.{true}
use mathlib.Core.List.{List, [], ◌∷◌, ◌++◌}
use mathlib.Core.Path.{◌≡◌}
use lib.ListN.{length}
use Rattle.rules.specs.Bytes.{u16_at, two, four, every, is_byte}
use Rattle.rules.specs.Events.{Form, plain, addressed, event_size}
use Rattle.rules.specs.Logs.{Header, header_size, form_in, moved, listens_at9, header_of}
use Rattle.rules.specs.Writing.{put_header_in}
use Rattle.rules.proofs.Opened.{byte_at}
use Rattle.rules.proofs.OfBytes.{Bytes, byte-on, two-on, four-on, list_on, bytes-area}
use Rattle.rules.proofs.Writing.{every_take}
use Rattle.mending.specs.Mend.{arguments_in, events_in, left_in, kept, mended_header, kept_bytes, mended_log}
use Rattle.mending.proofs.Written.{kept-few, length-mended, no_longer}

-- The fields of a header, each in the bytes that it has.
record InRange (h : Header) : Type 0 where
  version : h.version < 65536
  call : h.call < 256
  flags : h.flags < 256
  value : h.value < 65536
  sub : h.sub < 256
  address_length : h.address_length < 256
  size_length : h.size_length < 256
  listens : h.listens < 65536
  arguments : h.arguments < 65536
  arguments_at : h.arguments_at < 65536
  events : h.events < 65536
  events_at : h.events_at < 65536
  replies : h.replies < 65536
  replies_at : h.replies_at < 65536
  total : h.total < 65536
  p2 : h.p2 < 4294967296
  star : h.star < 4294967296
  overall : h.overall < 4294967296

module _ (h : Header) (r : InRange h) (rest : List ℕ) (b : Bytes rest) where
  behind-listens : Bytes
      (two h.arguments ++
      (two h.arguments_at ++
      (two h.events ++
      (two h.events_at ++
      (two h.replies ++ (two h.replies_at ++ (two h.total ++ (four h.p2 ++ (four h.star ++ (four h.overall ++ rest))))))))))
  behind-listens =
      two-on _ _ r.arguments
      (two-on _ _ r.arguments_at
      (two-on _ _ r.events
      (two-on _ _ r.events_at
      (two-on _ _ r.replies
      (two-on _ _ r.replies_at (two-on _ _ r.total (four-on _ _ r.p2 (four-on _ _ r.star (four-on _ _ r.overall b)))))))))

  before-listens : (more : List ℕ) → Bytes more
      → Bytes (two h.version ++ (h.call ∷ h.flags ∷ (two h.value ++ (h.sub ∷ h.address_length ∷ h.size_length ∷ more))))
  before-listens more m =
      two-on _ _ r.version
      (byte-on _ _ r.call
      (byte-on _ _ r.flags (two-on _ _ r.value (byte-on _ _ r.sub (byte-on _ _ r.address_length (byte-on _ _ r.size_length m))))))

  header-on : (form : Form) → Bytes (put_header_in form h ++ rest)
  header-on plain = before-listens _ (byte-on (h.listens % 256) _ (omega arith) behind-listens)
  header-on addressed = before-listens _ (two-on h.listens _ r.listens behind-listens)

module _ (l : List ℕ) (b : every is_byte l ≡ true) (short : length l ≤ 65535) where
  abbrev h : Header
  h = header_of l

  pair : (i : ℕ) → u16_at l i < 65536
  pair i = omega (arith, byte_at l b i, byte_at l b (i + 1))

  listens-in : (form : Form) → listens_at9 form l < 65536
  listens-in plain = omega (arith, byte_at l b 9)
  listens-in addressed = pair 9

  module _ (args : header_size (form_in h) + h.arguments ≤ length l) where
    in-range : InRange (mended_header h l)
    in-range =
        let n = length-mended h l args in
        let m = no_longer h l args in
        let k = moved (form_in h) in
        record {
          version = pair 0;
          call = byte_at l b 2;
          flags = byte_at l b 3;
          value = pair 4;
          sub = byte_at l b 6;
          address_length = byte_at l b 7;
          size_length = byte_at l b 8;
          listens = listens-in (form_in h);
          arguments = pair (10 + k);
          arguments_at = omega arith;
          events = omega (arith, kept-few h l);
          events_at = omega arith;
          replies = omega arith;
          replies_at = omega arith;
          total = omega arith;
          p2 = omega (arith, pair (24 + k), pair (24 + k + 2));
          star = omega (arith, pair (28 + k), pair (28 + k + 2));
          overall = omega (arith, pair (32 + k), pair (32 + k + 2));
        }

    pub bytes-mended : every is_byte (mended_log h l) ≡ true
    bytes-mended =
        let size = event_size (form_in h) in
        let start = header_size (form_in h) + h.arguments in
        let events = events_in h l in
        let left = left_in h l in
        let behind : Bytes left = record { so = bytes-area l (start + h.events * size) h.replies b } in
        let run = list_on (kept_bytes h l) left (every_take is_byte (kept h l * size) events (bytes-area l start (h.events * size) b)) behind in
        let rest = list_on (arguments_in h l) (kept_bytes h l ++ left) (bytes-area l (header_size (form_in h)) h.arguments b) run in
        (header-on (mended_header h l) in-range (arguments_in h l ++ (kept_bytes h l ++ left)) rest (form_in h)).so
