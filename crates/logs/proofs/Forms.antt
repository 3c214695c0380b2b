-- Laws of the two versions of a log: how large their parts are at most, how a header is read, and what is written of an event and a header.
use Prim.Native.Nat.{ℕ, ◌-◌, ◌*◌, ◌≤◌}
use native.Mathlib.Omega.{arith}
use mathlib.Core.List.{List, [], ◌∷◌, ◌++◌}
use mathlib.Core.Path.{◌≡◌, refl, ◌∙◌, ap}
use lib.ListN.{length, get_or, take, drop, length-drop}
use lib.Seq.{take_all}
use Rattle.rules.specs.Bytes.{u16_at, u32_at}
use Rattle.rules.specs.Events.{Form, plain, addressed, event_size, Entry}
use Rattle.rules.specs.Logs.{form_of, moved, Header, listens_at9, header_in, header_of}
use Rattle.rules.specs.Writing.{put_entry, put_header_in}

-- Bounds, so that sums and products of sizes fit.
pub moved-little : (form : Form) → moved form ≤ 1
moved-little plain = omega arith
moved-little addressed = omega arith

pub few_bytes : (form : Form) (n : ℕ) → n * event_size form ≤ n * 12
few_bytes plain n = omega arith
few_bytes addressed n = omega arith

-- A header whose fields behind byte 9 are read, at the places of version 1, from other bytes.
abbrev apart : Form → List ℕ → List ℕ → Header
apart form l rest = record {
  version = u16_at l 0;
  call = get_or l 2 0;
  flags = get_or l 3 0;
  value = u16_at l 4;
  sub = get_or l 6 0;
  address_length = get_or l 7 0;
  size_length = get_or l 8 0;
  listens = listens_at9 form l;
  arguments = u16_at rest 10;
  arguments_at = u16_at rest 12;
  events = u16_at rest 14;
  events_at = u16_at rest 16;
  replies = u16_at rest 18;
  replies_at = u16_at rest 20;
  total = u16_at rest 22;
  p2 = u32_at rest 24;
  star = u32_at rest 28;
  overall = u32_at rest 32;
}

moved_on : (form : Form) (l : List ℕ) → apart form l (drop (moved form) l) ≡ header_in form l
moved_on plain l = refl
moved_on addressed [] = refl
moved_on addressed (b ∷ l) = refl

-- It is the header where those bytes are the log, of version 2 without its first byte.
pub header-apart : (form : Form) (l rest : List ℕ) {h : Header} → h ≡ apart form l rest → rest ≡ take (length l) (drop (moved form) l)
    → form ≡ form_of (u16_at l 0) → h ≡ header_of l
header-apart form l rest read left known =
    let whole = take_all (length l) (drop (moved form) l) (simp length-drop (omega arith)) in
    read ∙ ap (apart form l) (left ∙ whole) ∙ moved_on form l ∙ ap (λ (f : Form). header_in f l) known

-- What version 1 writes is cut out of what version 2 would: an event without the last two bytes, and a header without byte 9.
pub entry-cut : (form : Form) (e : Entry) → take (event_size form) (put_entry addressed e) ≡ put_entry form e
entry-cut plain e = refl
entry-cut addressed e = refl

pub header-cut : (form : Form) (h : Header)
    → take 9 (put_header_in addressed h) ++ take 28 (drop (10 - moved form) (put_header_in addressed h)) ≡ put_header_in form h
header-cut plain h = refl
header-cut addressed h = refl
