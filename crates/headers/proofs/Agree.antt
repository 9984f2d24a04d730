-- Any two results that `read_header`'s contract allows agree: it gives n and the session, and that n is at most 11 has one proof. Assumes nothing.
use mathlib.Core.HLevel.{is_prop→PathP}
use mathlib.Core.Path.{◌≡◌, refl, sym, ap, ◌∙◌}
use Rattle.std.proofs.Math.Bridge.{le_prop}
use Rattle.std.proofs.lemmas.Option.{none-some}
use Rattle.std.specs.Prelude.{ℕ, ◌≤◌, Option, Some, None, option_map}
use Rattle.headers.specs.declared.Header.{Header}

abbrev numbers : Header → ℕ × ℕ
numbers h = (h.n, h.session)

-- what is in an option, and this where it is empty
abbrev held : ℕ × ℕ → Option (ℕ × ℕ) → ℕ × ℕ
held x None = x
held x (Some y) = y

header_is : (h h' : Header) → numbers h ≡ numbers h' → h ≡ h'
header_is h h' e =
    λ i. record { n = (e i).0; session = (e i).1; few = is_prop→PathP (λ j. (e j).0 ≤ 11) (λ j. le_prop) h.few h'.few i }

same : (r r' : Option Header) → option_map numbers r ≡ option_map numbers r' → r ≡ r'
same None None e = refl
same None (Some h) e = absurd (none-some (numbers h) e)
same (Some h) None e = absurd (none-some (numbers h) (sym e))
same (Some h) (Some h') e = ap Some (header_is h h' (ap (held (numbers h)) e))

pub read_headers_agree : {r r' : Option Header} {g : Option (ℕ × ℕ)} → option_map (λ h. (h.n, h.session)) r ≡ g
    → option_map (λ h. (h.n, h.session)) r' ≡ g → r ≡ r'
read_headers_agree {r} {r'} p q = same r r' (p ∙ sym q)
