-- The keys gone over run by run, for any rule: u is the start of a run, and one lent part of both buffers has its pairs. Assumes nothing.
use Prim.Native.Nat.{ℕ, suc, zero-le, ◌+◌, ◌-◌, ◌*◌, ◌/◌, ◌%◌, ◌^◌, ◌≤◌, ◌<◌}
use mathlib.Core.Logic.{◌⊎◌, inl, inr, ⊎_elim}
use mathlib.Core.Path.{◌≡◌, refl, sym, ap, ap₂, ◌∙◌, subst}
use native.Mathlib.Decide.{dec_lt}
use native.Mathlib.Nat.{add-mul, one-mul, pow-suc, mod-lt, lt_of_mul-lt-mul_right, mul-le-mul_right, div-add-mod', mul-mod_left, zero-mod}
use native.Mathlib.Omega.{arith}
use lib.Bits.{bit_and, bit_or, and_self, and_le_r, and_mask, and_block}
use lib.ListN.{length}
use lib.Pow as Pow
use lib.Pow.{pow_pos, pow_mono, split, high}
use Rattle.book.specs.Answers.{Buffers}
use Rattle.book.specs.Lent.{SameSize}
use Rattle.book.specs.State.{at, pair}
use Rattle.book.specs.declared.Pair.{Pair}
use Rattle.pairs.specs.Pairs.{Paired, Has, Swept}
use Rattle.pairs.specs.Runs.{Spaced, Run, RunDone, Cut, Runs}
use Rattle.pairs.proofs.Bits.{or_ge, or_covers, next_block, next_block_least}
use Rattle.pairs.proofs.Cuts.{pow_split}
use Rattle.pairs.proofs.Keys.{key_ge, apart}
use Rattle.pairs.proofs.Lending.{lent, returned, lent_reals, lent_imags, lent_place, back_same, back_inside, back_before, back_after}
use Rattle.pairs.proofs.Loop.{nothing, join, Same, Same', renumber}
use Rattle.seated.proofs.Shifts.{pow_le}
use Rattle.pairs.proofs.Spaced.{gap, halved}

-- ---- which numbers of a run are keys
module _ {n wide run stride : ℕ} (c : Cut n wide run stride) where
  low_is : stride - 1 ≡ 2 ^ c.k - 1
  low_is = ap (λ (x : ℕ). x - 1) c.stride_is

  pub stride_pos : 0 < stride
  stride_pos = omega (arith, c.stride_is, pow_pos c.k)

  stride_le : stride * 2 ≤ 2 ^ c.r
  stride_le = omega (arith, c.stride_is, pow-suc 2 c.k, pow_mono {i = suc c.k} {j = c.r} c.below)

  low_lt : stride - 1 < 2 ^ c.r
  low_lt = omega (arith, stride_le, stride_pos)

  -- the ones below stride, in a number and in its distance to them
  low_on : (j : ℕ) → j % stride ≡ 0 → bit_and (stride - 1 + j) (stride - 1) ≡ stride - 1
  low_on j z =
      let q : ℕ = j / stride in
      let e : q * stride ≡ j = omega (arith, div-add-mod' j stride) in
      let e' : stride - 1 + j ≡ q * 2 ^ c.k + (stride - 1) = omega (arith, ap (λ (x : ℕ). q * x) c.stride_is) in
      ap (bit_and (stride - 1 + j)) low_is ∙ and_mask (stride - 1 + j) c.k ∙ ap (λ (x : ℕ). x % 2 ^ c.k) e'
      ∙ Pow.low q c.k {lo = stride - 1} (omega (arith, c.stride_is, pow_pos c.k))

  low_off : (v : ℕ) → bit_and v (stride - 1) ≡ stride - 1 → (stride - 1 ≤ v) × ((v - (stride - 1)) % stride ≡ 0)
  low_off v e =
      let o : v % 2 ^ c.k ≡ stride - 1 = sym (and_mask v c.k) ∙ ap (bit_and v) (sym low_is) ∙ e in
      let d : v / 2 ^ c.k * 2 ^ c.k + v % 2 ^ c.k ≡ v = split v c.k in
      let m : v - (stride - 1) ≡ v / 2 ^ c.k * stride = omega (arith, ap (λ (x : ℕ). v / 2 ^ c.k * x) c.stride_is) in
      (omega arith, ap (λ (x : ℕ). x % stride) m ∙ mul-mod_left (v / 2 ^ c.k) stride)

  abbrev fixed : ℕ
  fixed = wide + (stride - 1)

  fixed_is : c.y * 2 ^ c.r + (stride - 1) ≡ wide + (stride - 1)
  fixed_is = omega (arith, c.wide_is)

  run_on : (x j : ℕ) → bit_and x c.y ≡ c.y → stride - 1 + j < 2 ^ c.r → j % stride ≡ 0 → Has (wide + (stride - 1)) (x * 2 ^ c.r + (stride - 1 + j))
  run_on x j e l z =
      subst (λ (f : ℕ). bit_and (x * 2 ^ c.r + (stride - 1 + j)) f ≡ f) fixed_is
      (and_block c.r x c.y (stride - 1 + j) (stride - 1) l low_lt ∙ ap₂ (λ (p q : ℕ). p * 2 ^ c.r + q) e (low_on j z))

  cut_on : (x v : ℕ) → v < 2 ^ c.r → Has (wide + (stride - 1)) (x * 2 ^ c.r + v) → (bit_and x c.y ≡ c.y) × (bit_and v (stride - 1) ≡ stride - 1)
  cut_on x v l e =
      let b = and_block c.r x c.y v (stride - 1) l low_lt in
      let e' : bit_and (x * 2 ^ c.r + v) (c.y * 2 ^ c.r + (stride - 1)) ≡ c.y * 2 ^ c.r + (stride - 1) =
      subst (λ (f : ℕ). bit_and (x * 2 ^ c.r + v) f ≡ f) (sym fixed_is) e in
      let s : bit_and x c.y * 2 ^ c.r + bit_and v (stride - 1) ≡ c.y * 2 ^ c.r + (stride - 1) = sym b ∙ e' in
      let h : bit_and x c.y ≡ c.y =
      sym (high (bit_and x c.y) c.r {lo = bit_and v (stride - 1)} (omega (arith, and_le_r v (stride - 1), low_lt)))
      ∙ ap (λ (w : ℕ). w / 2 ^ c.r) s ∙ high c.y c.r {lo = stride - 1} low_lt in
      let s' : c.y * 2 ^ c.r + bit_and v (stride - 1) ≡ c.y * 2 ^ c.r + (stride - 1) = rw h at s in
      (h, omega arith)

  -- the next run's start, and that no key lies before it
  next_is : (x u : ℕ) → u ≡ x * 2 ^ c.r → bit_or (u + run) wide ≡ bit_or (x + 1) c.y * 2 ^ c.r
  next_is x u h = let m : u + run ≡ x * 2 ^ c.r + 2 ^ c.r = omega (arith, c.run_is) in ap₂ bit_or m c.wide_is ∙ next_block c.r x c.y

  next_run : (x w : ℕ) → bit_and x c.y ≡ c.y → Has (wide + (stride - 1)) w → x * 2 ^ c.r + 2 ^ c.r ≤ w → bit_or (x + 1) c.y * 2 ^ c.r ≤ w
  next_run x w e f l =
      let z : ℕ = w / 2 ^ c.r in
      let v : ℕ = w % 2 ^ c.r in
      let sp : z * 2 ^ c.r + v ≡ w = split w c.r in
      let k : bit_and z c.y ≡ c.y = (cut_on z v (mod-lt w (pow_pos c.r)) (subst (Has (wide + (stride - 1))) (sym sp) f)).0 in
      next_block_least c.r x c.y w e k l

  run_room : (x u : ℕ) → u ≡ x * 2 ^ c.r → u < 2 ^ n → u + run ≤ 2 ^ n
  run_room x u h l =
      let p : 2 ^ n ≡ 2 ^ (n - c.r) * 2 ^ c.r = pow_split c.r n c.within in
      let xl : x < 2 ^ (n - c.r) = lt_of_mul-lt-mul_right (2 ^ c.r) (omega arith) in
      omega (arith, c.run_is, mul-le-mul_right {m = x + 1} {n = 2 ^ (n - c.r)} (2 ^ c.r) (omega arith), add-mul x 1 (2 ^ c.r), one-mul (2 ^ c.r))

  -- the pairs of a run go by twos, and the last ends with the run
  run_twos : run % (stride * 2) ≡ 0
  run_twos =
      let k : ℕ = c.k in
      let p : 2 ^ c.r ≡ 2 ^ (c.r - suc k) * 2 ^ suc k = pow_split (suc k) c.r c.below in
      let q : 2 ^ suc k ≡ stride * 2 = pow-suc 2 k ∙ ap (λ (x : ℕ). x * 2) (sym c.stride_is) in
      ap (λ (x : ℕ). x % (stride * 2)) (c.run_is ∙ p ∙ ap (λ (x : ℕ). 2 ^ (c.r - suc k) * x) q) ∙ mul-mod_left (2 ^ (c.r - suc k)) (stride * 2)

  run_even : (i : ℕ) → i % (stride * 2) ≡ 0 → i < run → i + stride < run
  run_even i z l = omega (arith, gap (stride * 2) i run z run_twos l, stride_pos)

  run_last : (i : ℕ) → Spaced stride run i → i + stride ≤ run
  run_last i s = gap stride i run s.0 (halved stride run run_twos) s.1

-- ---- a part that was lent from a on and came back with the rule put to its pairs
module _ (rule : Pair → Pair) (Key : ℕ → Type 0) (d a k run : ℕ) (b p : Buffers) (fr : a + k ≤ length b.reals) (fi : a + k ≤ length b.imags)
    (same : SameSize (lent a k b) p)
    (room : (i : ℕ) → Key i → i + d < k) where
  lift : Paired rule Key (λ i. i) (λ i. i + d) 0 run (at (lent a k b)) (at p) → Paired rule Key (λ i. a + i) (λ i. a + i + d) 0 run (at b)
      (at (returned a k b p))
  lift q =
      record {
        lower = λ j key x y. back_inside a k b fr fi p same j (omega (arith, room j key)) ∙ q.lower j key x y ∙ ap (λ (z : Pair). (rule z).s0) (read j key);
        upper = λ j key x y. ap (at (returned a k b p)) (sym (far j)) ∙ back_inside a k b fr fi p same (j + d) (room j key) ∙ q.upper j key x y
            ∙ ap (λ (z : Pair). (rule z).s1) (read j key);
        others = λ i f.
            elim (dec_lt i a) [
              | yes x ↦ back_before a k b fr fi p same i x
              | no x ↦ elim (dec_lt i (a + k)) [ yes y ↦ inner i (omega arith) y f | no y ↦ back_after a k b fr fi p same i (omega arith) ]
            ];
      }
    where
      far : (j : ℕ) → a + (j + d) ≡ a + j + d
      far j = omega arith

      read : (j : ℕ) → Key j → pair (at (lent a k b) j) (at (lent a k b) (j + d)) ≡ pair (at b (a + j)) (at b (a + j + d))
      read j key = ap₂ pair (lent_place a k b fr fi j (omega (arith, room j key))) (lent_place a k b fr fi (j + d) (room j key) ∙ ap (at b) (far j))

      inner : (i : ℕ) → a ≤ i → i < a + k → ((j : ℕ) → Key j → 0 ≤ j → j < run → (i ≡ a + j) ⊎ (i ≡ a + j + d) → ⊥) → at (returned a k b p) i ≡ at b i
      inner i x y f =
          let m : ℕ = i - a in
          let e : a + m ≡ i = omega arith in
          subst (λ (z : ℕ). at (returned a k b p) z ≡ at b z) e
          (back_inside a k b fr fi p same m (omega arith)
          ∙ q.others m (λ j key u v w. f j key u v
          (⊎_elim (λ h. inl (let g : i ≡ a + j = omega arith in g)) (λ h. inr (let g : i ≡ a + j + d = omega arith in g)) w))
          ∙ lent_place a k b fr fi m (omega arith))

-- the length of the lent part, and its places: those of the key u + low + j are those of j in the part
module _ (u low run back0 back1 : ℕ) (reach : back0 ≤ u + low) (order : back1 < back0) where
  span_room : (i : ℕ) → i + (low + 1) ≤ run → i + (back0 - back1) < u + run - back1 - (u + low - back0)
  span_room i h =
      let a : ℕ = u + low - back0 in
      let e : a + back0 ≡ u + low = omega arith in
      omega arith

  span_lower : (j : ℕ) → u + low + j - back0 ≡ u + low - back0 + j
  span_lower j = omega arith

  span_upper : (j : ℕ) → u + low + j - back1 ≡ u + low - back0 + j + (back0 - back1)
  span_upper j = omega arith

  span_cross : (i j : ℕ) → i ≡ j + (back0 - back1) → u + low + i - back0 ≡ u + low + j - back1
  span_cross i j e = omega arith

-- ---- what the loop keeps, at the start u of a run
pub record Turns (rule : Pair → Pair) (n wide run stride back0 back1 : ℕ) (b₀ : Buffers) (u : ℕ) (b : Buffers) : Type 0 where
  pub cut : Cut n wide run stride
  pub same : SameSize b₀ b
  pub turn : ℕ
  pub here : u ≡ turn * 2 ^ cut.r
  pub on : bit_and turn cut.y ≡ cut.y
  pub under : (v : ℕ) → Has (wide + (stride - 1)) v → v < u → v < 2 ^ n
  pub done : Paired rule (Has (wide + (stride - 1))) (λ v. v - back0) (λ v. v - back1) 0 u (at b₀) (at b)

-- the numbers of a turn: the lent part is from u + low - back0 to u + run - back1
pub record Numbers (n run stride back0 back1 u : ℕ) (b : Buffers) : Type 0 where
  pub some : 0 < stride
  pub low : stride * 2 ≤ run
  pub reach : back0 ≤ u + (stride - 1)
  pub order : back1 < back0
  pub room : u + run ≤ 2 ^ n
  pub small : 2 ^ n ≤ 2 ^ 24
  pub reals : length b.reals ≡ 2 ^ n
  pub imags : length b.imags ≡ 2 ^ n

module _ {n wide run stride back0 back1 : ℕ} {b₀ : Buffers} (ok : Runs n wide run stride back0 back1 b₀) where
  abbrev key : ℕ → Type 0
  key = Has (wide + (stride - 1))

  pub turns_start : {rule : Pair → Pair} → Turns rule n wide run stride back0 back1 b₀ wide b₀
  turns_start {rule} =
      record {
        cut = ok.cut;
        same = record { reals = refl; imags = refl };
        turn = ok.cut.y;
        here = ok.cut.wide_is;
        on = and_self ok.cut.y;
        under = λ v k l. absurd (omega (arith, key_ge (wide + (stride - 1)) v k));
        done = nothing rule (Has (wide + (stride - 1))) (λ v. v - back0) (λ v. v - back1) 0 wide (at b₀)
            (λ v k x y. omega (arith, key_ge (wide + (stride - 1)) v k));
      }

  module _ {rule : Pair → Pair} {u : ℕ} {b : Buffers} (t : Turns rule n wide run stride back0 back1 b₀ u b) where
    -- the run's keys
    own : (j : ℕ) → Spaced stride run j → Has (wide + (stride - 1)) (u + (stride - 1) + j)
    own j s =
        let e : t.turn * 2 ^ t.cut.r + (stride - 1 + j) ≡ u + (stride - 1) + j = omega (arith, t.here) in
        subst (Has (wide + (stride - 1))) e (run_on t.cut t.turn j t.on (omega (arith, t.cut.run_is, run_last t.cut j s, stride_pos t.cut))
        s.0)

    pub numbers : u < length b₀.reals → Numbers n run stride back0 back1 u b
    numbers l =
        let below : u < 2 ^ n = omega (arith, ok.keyed.reals) in
        let le : stride * 2 ≤ run = omega (arith, stride_le t.cut, t.cut.run_is) in
        let first : u + (stride - 1) + 0 ≡ u + (stride - 1) = omega arith in
        let k : Has (wide + (stride - 1)) (u + (stride - 1)) = subst (Has (wide + (stride - 1))) first
        (own 0 (zero-mod stride, omega (arith, le, stride_pos t.cut))) in
        record {
          some = stride_pos t.cut;
          low = le;
          reach = omega (arith, key_ge (wide + (stride - 1)) (u + (stride - 1)) k, ok.keyed.reach);
          order = ok.keyed.order;
          room = run_room t.cut t.turn u t.here below;
          small = pow_le n 24 ok.keyed.fits;
          reals = t.same.reals ∙ ok.keyed.reals;
          imags = t.same.imags ∙ ok.keyed.imags;
        }

    module _ (l : u < length b₀.reals) where
      abbrev a : ℕ
      a = u + (stride - 1) - back0

      abbrev k : ℕ
      k = u + run - back1 - (u + (stride - 1) - back0)

      fits : a + k ≤ 2 ^ n
      fits = omega (arith, numbers l)

      room : (i : ℕ) → Spaced stride run i → i + (back0 - back1) < k
      room i s =
          let q = numbers l in
          span_room u (stride - 1) run back0 back1 q.reach q.order i (omega (arith, run_last t.cut i s, q.some))

      lower_at : (j : ℕ) → u + (stride - 1) + j - back0 ≡ a + j
      lower_at j = span_lower u (stride - 1) run back0 back1 (numbers l).reach (numbers l).order j

      upper_at : (j : ℕ) → u + (stride - 1) + j - back1 ≡ a + j + (back0 - back1)
      upper_at j = span_upper u (stride - 1) run back0 back1 (numbers l).reach (numbers l).order j

      -- a key of the run and its number in the part, either way
      abbrev Found : ℕ → ℕ → Type 0
      Found =
          Same' rule (Has (wide + (stride - 1))) (λ v. v - back0) (λ v. v - back1) (Spaced stride run)
          (λ i. a + i) (λ i. a + i + (back0 - back1)) u (u + run) 0 run

      abbrev Back : ℕ → ℕ → Type 0
      Back =
          Same rule (Has (wide + (stride - 1))) (λ v. v - back0) (λ v. v - back1) (Spaced stride run)
          (λ i. a + i) (λ i. a + i + (back0 - back1)) u (u + run) 0 run

      pub turns_ask : Run run (back0 - back1) stride (lent a k b)
      turns_ask =
          let q = numbers l in
          let fr : a + k ≤ length b.reals = omega (arith, fits, q.reals) in
          let fi : a + k ≤ length b.imags = omega (arith, fits, q.imags) in
          let lr : length (lent a k b).reals ≡ k = lent_reals a k b fr fi in
          let li : length (lent a k b).imags ≡ k = lent_imags a k b fr fi in
          record {
            equal = li ∙ sym lr;
            small = omega (arith, fits, q);
            some = q.some;
            narrow = omega (arith, q);
            room = λ i s. omega (arith, lr, room i s);
            apart = λ i j x y e.
                (apart ok.keyed).cross (u + (stride - 1) + i) (u + (stride - 1) + j) (own i x) (own j y)
                (span_cross u (stride - 1) run back0 back1 q.reach q.order i j e);
            even = run_even t.cut;
          }

      pub turns_step : (p : Buffers) → RunDone rule run (back0 - back1) stride (lent a k b) p
          → Turns rule n wide run stride back0 back1 b₀ (bit_or (u + run) wide) (returned a k b p)
      turns_step p ran =
          let q = numbers l in
          let fr : a + k ≤ length b.reals = omega (arith, fits, q.reals) in
          let fi : a + k ≤ length b.imags = omega (arith, fits, q.imags) in
          let back = back_same a k b fr fi p ran.same in
          let next : bit_or (u + run) wide ≡ bit_or (t.turn + 1) t.cut.y * 2 ^ t.cut.r = next_is t.cut t.turn u t.here in
          let far : u + run ≤ bit_or (u + run) wide = or_ge (u + run) wide in
          let gone : (v : ℕ) → Has (wide + (stride - 1)) v → u + run ≤ v → v < bit_or (u + run) wide → ⊥ =
          (λ v key x y. omega (arith, next, t.here, t.cut.run_is, next_run t.cut t.turn v t.on key (omega (arith, t.here, t.cut.run_is)))) in
          record {
            cut = t.cut;
            same = record { reals = back.reals ∙ t.same.reals; imags = back.imags ∙ t.same.imags };
            turn = bit_or (t.turn + 1) t.cut.y;
            here = next;
            on = or_covers (t.turn + 1) t.cut.y;
            under = λ v key x. elim (dec_lt v (u + run)) [ yes h ↦ omega (arith, q) | no h ↦ absurd (gone v key (omega arith) x) ];
            done =
                join rule (Has (wide + (stride - 1))) (λ v. v - back0) (λ v. v - back1) (apart ok.keyed) (omega arith) (omega arith) t.done
                (join rule (Has (wide + (stride - 1))) (λ v. v - back0) (λ v. v - back1) (apart ok.keyed) (omega arith) far (this p ran)
                (nothing rule (Has (wide + (stride - 1))) (λ v. v - back0) (λ v. v - back1) (u + run) (bit_or (u + run) wide) (at (returned a k b p)) gone));
          }
        where
          -- the run itself
          this : (p : Buffers) → RunDone rule run (back0 - back1) stride (lent a k b) p
              → Paired rule (Has (wide + (stride - 1))) (λ v. v - back0) (λ v. v - back1) u (u + run) (at b) (at (returned a k b p))
          this p ran =
              let q = numbers l in
              let fr : a + k ≤ length b.reals = omega (arith, fits, q.reals) in
              let fi : a + k ≤ length b.imags = omega (arith, fits, q.imags) in
              let lifted = lift rule (Spaced stride run) (back0 - back1) a k run b p fr fi ran.same room ran.pairs in
              renumber rule (Has (wide + (stride - 1))) (λ v. v - back0) (λ v. v - back1)
              (Spaced stride run) (λ i. a + i) (λ i. a + i + (back0 - back1)) u (u + run) 0 run
              found (λ v key x y. back v key) lifted
            where
              found : (w : ℕ) → Has (wide + (stride - 1)) w → u ≤ w → w < u + run → (v : ℕ) × Found w v
              found w key x y =
                  let v : ℕ = w - u in
                  let vr : v < run = omega arith in
                  let e : w ≡ t.turn * 2 ^ t.cut.r + v = omega (arith, t.here) in
                  let o = (cut_on t.cut t.turn v (omega (arith, t.cut.run_is)) (subst (Has (wide + (stride - 1))) e key)).1 in
                  let f = low_off t.cut v o in
                  let h : w ≡ u + (stride - 1) + (v - (stride - 1)) = omega (arith, f.0) in
                  let m : v - (stride - 1) < run = omega arith in (
                    v - (stride - 1),
                    record {
                      key = (f.1, m);
                      from = zero-le;
                      below = m;
                      lower = ap (λ (z : ℕ). z - back0) h ∙ lower_at (v - (stride - 1));
                      upper = ap (λ (z : ℕ). z - back1) h ∙ upper_at (v - (stride - 1));
                    },
                  )

              back : (v : ℕ) → Spaced stride run v → (w : ℕ) × Back v w
              back v key = (
                u + (stride - 1) + v,
                record {
                  key = own v key;
                  from = omega arith;
                  below = omega (arith, run_last t.cut v key, stride_pos t.cut);
                  lower = lower_at v;
                  upper = upper_at v;
                },
              )

    pub turns_end : length b₀.reals ≤ u → Swept rule n (wide + (stride - 1)) back0 back1 b₀ b
    turns_end l =
        record {
          same = t.same;
          pairs =
              record {
                lower = λ v key x y. t.done.lower v key x (omega (arith, ok.keyed.reals));
                upper = λ v key x y. t.done.upper v key x (omega (arith, ok.keyed.reals));
                others = λ i f. t.done.others i (λ v key x y. f v key x (t.under v key y));
              };
        }
