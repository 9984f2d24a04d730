-- Each call has one answer: any two results that a contract allows are the same. So it is for bytes in whatever pieces they come. Assumes nothing.
use Prim.Native.Nat.{ℕ}
use mathlib.Core.List.{List, map}
use mathlib.Core.Path.{◌≡◌, sym, ap, ◌∙◌}
use Rattle.book.specs.Answers.{Buffers}
use Rattle.book.specs.Sessions.{Bench}
use Rattle.once.proofs.Runs.{all_once_agree}
use Rattle.once.specs.Answered.{Answered}
use Rattle.stores.specs.Stores.{store}
use Rattle.feeding.specs.Feeding.{Form, form, rest_in, numbered, Takes, TakesAll, Fills}

module _ {f f₁ f₂ : Form} {b b₁ b₂ : Buffers} {bytes : List ℕ} where
  pub takes_agree : {n₁ n₂ : ℕ} {t₁ t₂ : List Answered} → Takes f b bytes n₁ t₁ f₁ b₁ → Takes f b bytes n₂ t₂ f₂ b₂
      → (n₁ ≡ n₂) × (t₁ ≡ t₂) × (f₁ ≡ f₂) × (b₁ ≡ b₂)
  takes_agree x y =
      let run = x.run ∙ sym y.run in
      let session = ap (λ (z : Bench). z.session) run in
      let kept = x.kept ∙ sym y.kept in
      let held = x.held ∙ sym y.held in
      (x.used ∙ sym y.used, x.told ∙ sym y.told, λ i. form (session i) (kept i) (held i), ap (λ (z : Bench). z.state) run)

  pub takes_all_agree : {t₁ t₂ : List Answered} → TakesAll f b bytes t₁ f₁ b₁ → TakesAll f b bytes t₂ f₂ b₂
      → (rest_in f₁ ≡ rest_in f₂) × (f₁.session ≡ f₂.session) × (t₁ ≡ t₂) × (b₁ ≡ b₂)
  takes_all_agree x y =
      let (session, state) = all_once_agree x.once y.once in
      (x.rest ∙ sym y.rest, session, x.told ∙ sym y.told, state)

  pub fills_agree : (before : List ℕ) {a₁ a₂ : List ℕ} → Fills f b bytes before a₁ f₁ b₁ → Fills f b bytes before a₂ f₂ b₂
      → (rest_in f₁ ≡ rest_in f₂) × (f₁.session ≡ f₂.session) × (a₁ ≡ a₂) × (b₁ ≡ b₂)
  fills_agree before (t₁, x, p) (t₂, y, q) =
      let (rest, session, told, state) = takes_all_agree x y in
      (rest, session, p ∙ ap (λ (t : List Answered). store before 0 (map numbered t)) told ∙ sym q, state)
