-- A record that is written reads back as it was: field after field, and its gate by its shape. Assumes nothing.
use Prim.Native.Nat.{ℕ, ◌^◌, ◌<◌}
use native.Mathlib.Nat.{div-one}
use native.Mathlib.Omega.{arith}
use mathlib.Core.Path.{◌≡◌, ap, ◌∙◌}
use mathlib.Core.List.{List, [], ◌++◌}
use Rattle.std.specs.Prelude.{Option, Some}
use Rattle.book.specs.Gates.{angle_of, angles_of, noise_of}
use Rattle.book.specs.Records.{bytes, floats, field, parts_of, fields_of, read_angle, read_angles, read_noise}
use Rattle.book.specs.Records.{plain, angled, eight, second, forced, noisy, row_of, read_row, record_with, read_record}
use Rattle.book.specs.declared.Angle.{Angle}
use Rattle.book.specs.declared.Angles.{Angles}
use Rattle.book.specs.declared.Controls.{Controls}
use Rattle.book.specs.declared.Forced.{Forced as ForcedBy}
use Rattle.book.specs.declared.Gate.{Gate}
use Rattle.book.specs.declared.Gate.TheVariants.{H, X, Y, Z, P, Rx, Ry, Rz, U, Swap, Measure, BitFlip}
use Rattle.book.specs.declared.Noise.{Noise}
use Rattle.book.specs.declared.Parts.{Parts}
use Rattle.book.specs.declared.Shape.TheVariants.{Plain, Angled, Eight, Second, Forced, Noisy}
use Rattle.wire.specs.Bytes.{Each, IsF64}
use Rattle.wire.proofs.Fields.{listed_field}
use Rattle.wire.proofs.Floats.{float_back}
use Rattle.wire.proofs.Numbers.{number_bytes}
use Rattle.records.specs.RoundTrips.{OwnFits, floats_of, ReadsBack}

-- ---- what a gate is fed

angle_back : (a : Angle) → Each IsF64 (angle_of a) → read_angle (floats (angle_of a)) ≡ a
angle_back a h =
    let x = float_back (angle_of a) h in
    λ i. record { cosine = x 0 (omega arith) i; sine = x 1 (omega arith) i }

noise_back : (n : Noise) → Each IsF64 (noise_of n) → read_noise (floats (noise_of n)) ≡ n
noise_back n h =
    let x = float_back (noise_of n) h in
    λ i. record { prob = x 0 (omega arith) i; draw = x 1 (omega arith) i }

angles_back : (g : Angles) → Each IsF64 (angles_of g) → read_angles (floats (angles_of g)) ≡ g
angles_back g h =
    let x = float_back (angles_of g) h in
    λ i.
    record {
      ct = x 0 (omega arith) i;
      st = x 1 (omega arith) i;
      cl = x 2 (omega arith) i;
      sl = x 3 (omega arith) i;
      cpl = x 4 (omega arith) i;
      spl = x 5 (omega arith) i;
      cp = x 6 (omega arith) i;
      sp = x 7 (omega arith) i;
    }

-- ---- the shapes

module _ (t : ℕ) (c : Controls) (h : c.ones < 2 ^ 32) where
  plain_back : (g : ℕ → Controls → Gate) → read_row (plain g) t (fields_of (Plain c)) ≡ Some (g t c)
  plain_back g = rw (listed_field 0x05 (bytes 4 c.ones) [], number_bytes 4 c.ones h)

  angled_back : (g : ℕ → Controls → Angle → Gate) (a : Angle) → Each IsF64 (angle_of a) → read_row (angled g) t (fields_of (Angled c a)) ≡ Some (g t c a)
  angled_back g a f =
      rw (
        listed_field 0x05 (bytes 4 c.ones) (field 0x07 (floats (angle_of a))),
        listed_field 0x07 (floats (angle_of a)) [],
        number_bytes 4 c.ones h,
        angle_back a f,
      )

  eight_back : (g : ℕ → Controls → Angles → Gate) (a : Angles) → Each IsF64 (angles_of a) → read_row (eight g) t (fields_of (Eight c a)) ≡ Some (g t c a)
  eight_back g a f =
      rw (
        listed_field 0x05 (bytes 4 c.ones) (field 0x08 (floats (angles_of a))),
        listed_field 0x08 (floats (angles_of a)) [],
        number_bytes 4 c.ones h,
        angles_back a f,
      )

module _ (t : ℕ) where
  second_back : (g : ℕ → ℕ → Gate) (u : ℕ) → u < 256 → read_row (second g) t (fields_of (Second u)) ≡ Some (g t u)
  second_back g u h = rw (listed_field 0x06 (bytes 1 u) [], number_bytes 1 u h)

  forced_back : (g : ℕ → ForcedBy → Gate) (f : ForcedBy) → read_row (forced g) t (fields_of (Forced f)) ≡ Some (g t f)
  forced_back g f = rw (listed_field 0x09 (bytes 1 f.outcome ++ bytes 1 f.reset) [], div-one f.outcome, div-one f.reset)

  noisy_back : (g : ℕ → Noise → Gate) (n : Noise) → Each IsF64 (noise_of n) → read_row (noisy g) t (fields_of (Noisy n)) ≡ Some (g t n)
  noisy_back g n f = rw (listed_field 0x0A (floats (noise_of n)) [], noise_back n f)

-- a gate in parts comes back from its row
abbrev read_parts : Parts → Option Gate
read_parts p = read_row (row_of p.code) p.target (fields_of p.shape)

gate_back : (g : Gate) → OwnFits (parts_of g).shape → Each IsF64 (floats_of (parts_of g).shape) → read_parts (parts_of g) ≡ Some g
gate_back (H t c) h f = plain_back t c h H
gate_back (X t c) h f = plain_back t c h X
gate_back (Y t c) h f = plain_back t c h Y
gate_back (Z t c) h f = plain_back t c h Z
gate_back (P t c a) h f = angled_back t c h P a f
gate_back (Rx t c a) h f = angled_back t c h Rx a f
gate_back (Ry t c a) h f = angled_back t c h Ry a f
gate_back (Rz t c a) h f = angled_back t c h Rz a f
gate_back (U t c g) h f = eight_back t c h U g f
gate_back (Swap t u) h f = second_back t Swap u h
gate_back (Measure t x) h f = forced_back t Measure x
gate_back (BitFlip t n) h f = noisy_back t BitFlip n f

code_lt : (g : Gate) → (parts_of g).code < 256
code_lt (H t c) = omega arith
code_lt (X t c) = omega arith
code_lt (Y t c) = omega arith
code_lt (Z t c) = omega arith
code_lt (P t c a) = omega arith
code_lt (Rx t c a) = omega arith
code_lt (Ry t c a) = omega arith
code_lt (Rz t c a) = omega arith
code_lt (U t c g) = omega arith
code_lt (Swap t u) = omega arith
code_lt (Measure t f) = omega arith
code_lt (BitFlip t n) = omega arith

-- ---- the first four fields

head_back : (s n code t : ℕ) (rest : List ℕ) → s < 2 ^ 32 → n < 2 ^ 16 → code < 256 → t < 256
    → read_record (field 0x01 (bytes 4 s) ++ field 0x02 (bytes 2 n) ++ field 0x03 (bytes 1 code) ++ field 0x04 (bytes 1 t) ++ rest)
    ≡ record_with s n (read_row (row_of code) t rest)
head_back s n code t rest hs hn hc ht =
    rw (
      listed_field 0x01 (bytes 4 s) (field 0x02 (bytes 2 n) ++ field 0x03 (bytes 1 code) ++ field 0x04 (bytes 1 t) ++ rest),
      listed_field 0x02 (bytes 2 n) (field 0x03 (bytes 1 code) ++ field 0x04 (bytes 1 t) ++ rest),
      listed_field 0x03 (bytes 1 code) (field 0x04 (bytes 1 t) ++ rest),
      listed_field 0x04 (bytes 1 t) rest,
      number_bytes 4 s hs,
      number_bytes 2 n hn,
      number_bytes 1 code hc,
      number_bytes 1 t ht,
    )

pub reads_back : ReadsBack
reads_back r h =
    let p = parts_of r.gate in
    head_back r.session r.number p.code p.target (fields_of p.shape) h.session h.number (code_lt r.gate) h.target
    ∙ ap (record_with r.session r.number) (gate_back r.gate h.own h.floats)
