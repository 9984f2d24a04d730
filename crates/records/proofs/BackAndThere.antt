-- Bytes that are read as a record with no NaN are the bytes that it is written as: each field that was listed is the field of what was read in it.
-- So each record has one spelling. Assumes nothing.
use Prim.Native.Nat.{ℕ, zero, suc, ◌*◌}
use native.Mathlib.Nat.{div-one}
use native.Mathlib.Omega.{arith}
use mathlib.Core.Path.{◌≡◌, refl, sym, ap, ◌∙◌, subst}
use mathlib.Core.List.{List, [], ◌∷◌, ◌++◌, append-nil}
use Rattle.std.specs.Prelude.{Option, Some, None}
use lib.Ieee.{Float}
use lib.ListN.{length, get_or}
use Rattle.book.specs.Gates.{angle_of, angles_of, noise_of}
use Rattle.book.specs.Records.{bytes, number, floats, field, mask_field, parts_of, fields_of, listed, last, read_angle}
use Rattle.book.specs.Records.{read_angles, read_noise, read_forced, plain, row_of, read_row, record_with, write_record}
use Rattle.book.specs.State.{controlled}
use Rattle.book.specs.declared.Controls.{Controls}
use Rattle.book.specs.declared.Gate.{Gate}
use Rattle.book.specs.declared.Gate.TheVariants.{H, X, Y, Z, P, Rx, Ry, Rz, U, Swap, Measure, BitFlip}
use Rattle.book.specs.declared.Record.{Record}
use Rattle.wire.specs.Bytes.{Bytes, Each, NotNan}
use Rattle.wire.proofs.After.{after1, after2, after3, after4}
use Rattle.wire.proofs.Fields.{listed_is}
use Rattle.wire.proofs.Floats.{floats_there}
use Rattle.wire.proofs.Numbers.{bytes_back}
use Rattle.records.specs.RoundTrips.{floats_of, WritesBack, OneSpelling}

no_answer : {A : Type 0} {a : A} → None ≡ Some a → ⊥
no_answer e = let z : ◌≡◌ {A = ℕ} 0 1 = cc in omega arith

-- nothing stands behind the last field
last_is : {A : Type 0} (rest : List ℕ) (a b : A) → last rest a ≡ Some b → (rest ≡ []) × (a ≡ b)
last_is [] a b e = (refl, (cc))
last_is (x ∷ rest) a b e = absurd (no_answer e)

-- a last field: its contents, and that they are all there is
record Last {A : Type 0} (tag len : ℕ) (bs : List ℕ) (f : List ℕ → A) (a : A) : Type 0 where
  contents : List ℕ
  gives : f contents ≡ a
  whole : field tag contents ≡ bs
  size : length contents ≡ len
  within : Bytes contents

last_field : {A : Type 0} (tag len : ℕ) (bs : List ℕ) (f : List ℕ → A) (a : A) → Bytes bs
    → listed tag len bs (λ c rest. last rest (f c)) ≡ Some a → Last tag len bs f a
last_field tag len bs f a h e =
    let (c, rest, w, q) = listed_is tag len bs (λ c rest. last rest (f c)) a h e in
    let (none_left, g) = last_is rest (f c) a q in
    record {
      contents = c;
      gives = g;
      whole = sym (w.whole ∙ ap (λ (l : List ℕ). field tag c ++ l) none_left ∙ append-nil (field tag c));
      size = w.size;
      within = w.within;
    }

-- the mask, and what stands behind it
masked_is : {A : Type 0} (bs : List ℕ) (go : Controls → List ℕ → Option A) (a : A) → Bytes bs
    → listed 0x05 4 bs (λ m rest. go (controlled (number m)) rest) ≡ Some a
    → (c : Controls) × (rest : List ℕ) × (bs ≡ mask_field c ++ rest) × Bytes rest × (go c rest ≡ Some a)
masked_is bs go a h e =
    let (m, rest, w, q) = listed_is 0x05 4 bs (λ m rest. go (controlled (number m)) rest) a h e in (
      controlled (number m),
      rest,
      w.whole ∙ ap (λ (l : List ℕ). field 0x05 l ++ rest) (sym (bytes_back 4 m w.within w.size)),
      w.after,
      q,
    )

-- ---- the shapes

-- a gate has these parts, and they are written as these bytes
record Spells (code t : ℕ) (bs : List ℕ) (g : Gate) : Type 0 where
  code_is : (parts_of g).code ≡ code
  target_is : (parts_of g).target ≡ t
  fields_are : fields_of (parts_of g).shape ≡ bs

module _ (bs : List ℕ) (g : Gate) (h : Bytes bs) where
  plain_there : (t : ℕ) (f : ℕ → Controls → Gate) → read_row (plain f) t bs ≡ Some g → (c : Controls) × (f t c ≡ g) × (mask_field c ≡ bs)
  plain_there t f e =
      let w = last_field 0x05 4 bs (λ m. f t (controlled (number m))) g h e in
      (controlled (number w.contents), w.gives, ap (field 0x05) (bytes_back 4 w.contents w.within w.size) ∙ w.whole)

  -- the mask, and a field of floats, by how they are read and listed
  module _ {A : Type 0} (tag k : ℕ) (of : List ℕ → A) (all : A → List Float)
      (there : (c : List ℕ) → Bytes c → length c ≡ 8 * k → Each NotNan (all (of c)) → floats (all (of c)) ≡ c) where
    floats_last : (rest : List ℕ) (f : A → Gate) → Bytes rest → listed tag (8 * k) rest (λ x rest'. last rest' (f (of x))) ≡ Some g
        → (a : A) × (f a ≡ g) × (Each NotNan (all a) → field tag (floats (all a)) ≡ rest)
    floats_last rest f is e =
        let w = last_field tag (8 * k) rest (λ x. f (of x)) g is e in
        (of w.contents, w.gives, λ ok. ap (field tag) (there w.contents w.within w.size ok) ∙ w.whole)

    masked_there : (f : Controls → A → Gate)
        → listed 0x05 4 bs (λ m rest. listed tag (8 * k) rest λ x rest'. last rest' (f (controlled (number m)) (of x))) ≡ Some g
        → (c : Controls) × (a : A) × (f c a ≡ g) × (Each NotNan (all a) → mask_field c ++ field tag (floats (all a)) ≡ bs)
    masked_there f e =
        let (c, rest, whole, after, q) = masked_is bs (λ c rest. listed tag (8 * k) rest λ x rest'. last rest' (f c (of x))) g h e in
        let (a, gives, field_is) = floats_last rest (f c) after q in
        (c, a, gives, λ ok. ap (λ (l : List ℕ). mask_field c ++ l) (field_is ok) ∙ sym whole)

two_there : (c : List ℕ) → Bytes c → length c ≡ 2 → bytes 1 (get_or c 0 0) ++ bytes 1 (get_or c 1 0) ≡ c
two_there [] h e = absurd (omega arith)
two_there (a ∷ []) h e = absurd (omega arith)
two_there (a ∷ b ∷ []) h e = rw (div-one a, div-one b)
two_there (a ∷ b ∷ d ∷ c) h e = absurd (omega arith)

angle_there : (c : List ℕ) → Bytes c → length c ≡ 16 → Each NotNan (angle_of (read_angle c)) → floats (angle_of (read_angle c)) ≡ c
angle_there c h e ok = floats_there 2 c 0 h e ok

noise_there : (c : List ℕ) → Bytes c → length c ≡ 16 → Each NotNan (noise_of (read_noise c)) → floats (noise_of (read_noise c)) ≡ c
noise_there c h e ok = floats_there 2 c 0 h e ok

angles_there : (c : List ℕ) → Bytes c → length c ≡ 64 → Each NotNan (angles_of (read_angles c)) → floats (angles_of (read_angles c)) ≡ c
angles_there c h e ok = floats_there 8 c 0 h e ok

-- ---- by code

module _ (t : ℕ) (bs : List ℕ) (g : Gate) (h : Bytes bs) (ok : Each NotNan (floats_of (parts_of g).shape)) where
  -- the gate that was made of a row has the row's code
  spells : (code : ℕ) (f : Gate) → f ≡ g → (parts_of f).code ≡ code → (parts_of f).target ≡ t
      → (Each NotNan (floats_of (parts_of f).shape) → fields_of (parts_of f).shape ≡ bs) → Spells code t bs g
  spells code f e c t' w =
      let fine = subst (λ (x : Gate). Each NotNan (floats_of (parts_of x).shape)) (sym e) ok in
      subst (Spells code t bs) e (record { code_is = c; target_is = t'; fields_are = w fine })

  gate_there : (code : ℕ) → read_row (row_of code) t bs ≡ Some g → Spells code t bs g
  gate_there zero e = absurd (no_answer e)
  gate_there (suc zero) e = let (c, p, w) = plain_there bs g h t H e in spells 1 (H t c) p refl refl (λ o. w)
  gate_there (suc (suc zero)) e = let (c, p, w) = plain_there bs g h t X e in spells 2 (X t c) p refl refl (λ o. w)
  gate_there (suc (suc (suc zero))) e = let (c, p, w) = plain_there bs g h t Y e in spells 3 (Y t c) p refl refl (λ o. w)
  gate_there (suc (suc (suc (suc zero)))) e = let (c, p, w) = plain_there bs g h t Z e in spells 4 (Z t c) p refl refl (λ o. w)
  gate_there (suc (suc (suc (suc (suc zero))))) e =
      let (c, a, p, w) = masked_there bs g h 0x07 2 read_angle angle_of angle_there (P t) e in
      spells 5 (P t c a) p refl refl w
  gate_there (suc (suc (suc (suc (suc (suc zero)))))) e =
      let (c, a, p, w) = masked_there bs g h 0x07 2 read_angle angle_of angle_there (Rx t) e in
      spells 6 (Rx t c a) p refl refl w
  gate_there (suc (suc (suc (suc (suc (suc (suc zero))))))) e =
      let (c, a, p, w) = masked_there bs g h 0x07 2 read_angle angle_of angle_there (Ry t) e in
      spells 7 (Ry t c a) p refl refl w
  gate_there (suc (suc (suc (suc (suc (suc (suc (suc zero)))))))) e =
      let (c, a, p, w) = masked_there bs g h 0x07 2 read_angle angle_of angle_there (Rz t) e in
      spells 8 (Rz t c a) p refl refl w
  gate_there (suc (suc (suc (suc (suc (suc (suc (suc (suc zero))))))))) e =
      let (c, a, p, w) = masked_there bs g h 0x08 8 read_angles angles_of angles_there (U t) e in
      spells 9 (U t c a) p refl refl w
  gate_there (suc (suc (suc (suc (suc (suc (suc (suc (suc (suc zero)))))))))) e =
      let w = last_field 0x06 1 bs (λ u. Swap t (number u)) g h e in
      spells 10 (Swap t (number w.contents)) w.gives refl refl
      (λ o. ap (field 0x06) (bytes_back 1 w.contents w.within w.size) ∙ w.whole)
  gate_there (suc (suc (suc (suc (suc (suc (suc (suc (suc (suc (suc zero))))))))))) e =
      let w = last_field 0x09 2 bs (λ f. Measure t (read_forced f)) g h e in
      spells 11 (Measure t (read_forced w.contents)) w.gives refl refl
      (λ o. ap (field 0x09) (two_there w.contents w.within w.size) ∙ w.whole)
  gate_there (suc (suc (suc (suc (suc (suc (suc (suc (suc (suc (suc (suc zero)))))))))))) e =
      let (n, p, w) = floats_last bs g h 0x0A 2 read_noise noise_of noise_there bs (BitFlip t) h e in
      spells 12 (BitFlip t n) p refl refl w
  gate_there (suc (suc (suc (suc (suc (suc (suc (suc (suc (suc (suc (suc (suc (n)))))))))))))) e = absurd (no_answer e)

-- ---- the record

record Made (session k : ℕ) (o : Option Gate) (r : Record) : Type 0 where
  gate : o ≡ Some r.gate
  session_is : r.session ≡ session
  number_is : r.number ≡ k

made_is : (session k : ℕ) (o : Option Gate) (r : Record) → record_with session k o ≡ Some r → Made session k o r
made_is session k (Some g) r e =
    let here : Record = record { session = session; number = k; gate = g } in
    let p : r ≡ here = cc e in
    record {
      gate = ap (λ (x : Record). Some x.gate) (sym p);
      session_is = ap (λ (x : Record). x.session) p;
      number_is = ap (λ (x : Record). x.number) p;
    }
made_is session k None r e = absurd (no_answer e)

-- a field of one number, and what stands behind it
number_is : {A : Type 0} (tag width : ℕ) (bs : List ℕ) (go : ℕ → List ℕ → Option A) (a : A) → Bytes bs
    → listed tag width bs (λ c rest. go (number c) rest) ≡ Some a
    → (n : ℕ) × (rest : List ℕ) × (field tag (bytes width n) ++ rest ≡ bs) × Bytes rest × (go n rest ≡ Some a)
number_is tag width bs go a h e =
    let (c, rest, w, q) = listed_is tag width bs (λ c rest. go (number c) rest) a h e in
    (number c, rest, ap (λ (l : List ℕ). field tag l ++ rest) (bytes_back width c w.within w.size) ∙ sym w.whole, w.after, q)

-- fields 02 to 04, and what stands behind them
abbrev behind : ℕ → ℕ → ℕ → List ℕ → List ℕ
behind k code t rest = field 0x02 (bytes 2 k) ++ field 0x03 (bytes 1 code) ++ field 0x04 (bytes 1 t) ++ rest

-- four fields, one behind the other
four : (s k code t : ℕ) (r₁ r₂ r₃ r₄ bs : List ℕ)
    → field 0x01 (bytes 4 s) ++ r₁ ≡ bs
    → field 0x02 (bytes 2 k) ++ r₂ ≡ r₁
    → field 0x03 (bytes 1 code) ++ r₃ ≡ r₂
    → field 0x04 (bytes 1 t) ++ r₄ ≡ r₃
    → field 0x01 (bytes 4 s) ++ behind k code t r₄ ≡ bs
four s k code t r₁ r₂ r₃ r₄ bs w₁ w₂ w₃ w₄ =
    ap (λ (l : List ℕ). field 0x01 (bytes 4 s) ++ field 0x02 (bytes 2 k) ++ field 0x03 (bytes 1 code) ++ l) w₄
    ∙ ap (λ (l : List ℕ). field 0x01 (bytes 4 s) ++ field 0x02 (bytes 2 k) ++ l) w₃
    ∙ ap (λ (l : List ℕ). field 0x01 (bytes 4 s) ++ l) w₂
    ∙ w₁

-- the record of what was read
same_record : (r : Record) (s k code t : ℕ) (rest bs : List ℕ) → r.session ≡ s → r.number ≡ k → Spells code t rest r.gate
    → field 0x01 (bytes 4 s) ++ behind k code t rest ≡ bs → write_record r ≡ bs
same_record r s k code t rest bs is_s is_k g w =
    (λ i. field 0x01 (bytes 4 (is_s i)) ++ behind (is_k i) (g.code_is i) (g.target_is i) (g.fields_are i)) ∙ w

pub writes_back : WritesBack
writes_back bs r h e ok =
    let (s, r₁, w₁, h₁, e₁) = number_is 0x01 4 bs after1 r h e in
    let (k, r₂, w₂, h₂, e₂) = number_is 0x02 2 r₁ (after2 s) r h₁ e₁ in
    let (code, r₃, w₃, h₃, e₃) = number_is 0x03 1 r₂ (after3 s k) r h₂ e₂ in
    let (t, r₄, w₄, h₄, e₄) = number_is 0x04 1 r₃ (after4 s k code) r h₃ e₃ in
    let m = made_is s k (read_row (row_of code) t r₄) r e₄ in
    same_record r s k code t r₄ bs m.session_is m.number_is
    (gate_there t r₄ r.gate h₄ ok code m.gate)
    (four s k code t r₁ r₂ r₃ r₄ bs w₁ w₂ w₃ w₄)

pub one_spelling : OneSpelling
one_spelling bs cs r h i p q ok = sym (writes_back bs r h p ok) ∙ writes_back cs r i q ok
