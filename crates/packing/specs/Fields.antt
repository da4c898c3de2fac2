-- Fields of any widths in one word, the most significant first. `join ws vs` is the word whose fields have the widths ws and hold vs;
-- `split ws x` is what the fields of the word x hold. Assumes nothing.
use Rattle.std.specs.Prelude.{◌≡◌, refl, List, [], ◌∷◌, ℕ, zero, suc, ◌+◌, ◌*◌, ◌/◌, ◌%◌, ◌^◌, ◌<◌, length, get_or, set}
use Rattle.std.proofs.Common.{ap, ap₂, ◌∙◌, mod-lt, arith, pow_pos, pow-add, shr_lt}
use Rattle.std.proofs.Math.Arith.{digits_lt}
use Rattle.std.proofs.Math.Pow.{high, low}
use Rattle.std.proofs.Math.Pow

abbrev pub total : List ℕ → ℕ
total [] = 0
total (w ∷ ws) = w + total ws

abbrev pub join : List ℕ → List ℕ → ℕ
join [] vs = 0
join (w ∷ ws) [] = 0
join (w ∷ ws) (v ∷ vs) = v * 2 ^ total ws + join ws vs

abbrev pub split : List ℕ → ℕ → List ℕ
split [] x = []
split (w ∷ ws) x = x / 2 ^ total ws ∷ split ws (x % 2 ^ total ws)

-- as many values as widths, each below 2 to its width
abbrev pub Fit : List ℕ → List ℕ → Type 0
Fit [] [] = Unit {0}
Fit [] (v ∷ vs) = ⊥
Fit (w ∷ ws) [] = ⊥
Fit (w ∷ ws) (v ∷ vs) = (v < 2 ^ w) × Fit ws vs

-- one field is put, the others stay
abbrev pub put_field : List ℕ → ℕ → ℕ → ℕ → ℕ
put_field ws x i v = join ws (set (split ws x) i v)

abbrev pub get_field : List ℕ → ℕ → ℕ → ℕ
get_field ws x i = get_or (split ws x) i 0

pub join_lt : (ws vs : List ℕ) → Fit ws vs → join ws vs < 2 ^ total ws
join_lt [] vs f = omega arith
join_lt (w ∷ ws) [] f = absurd f
join_lt (w ∷ ws) (v ∷ vs) f = rw (pow-add 2 w (total ws)) (digits_lt f.0 (join_lt ws vs f.1))

-- LAW: what is put into the fields is read from them
pub split_join : (ws vs : List ℕ) → Fit ws vs → split ws (join ws vs) ≡ vs
split_join [] [] f = refl
split_join [] (v ∷ vs) f = absurd f
split_join (w ∷ ws) [] f = absurd f
split_join (w ∷ ws) (v ∷ vs) f =
    let l = join_lt ws vs f.1 in
    ap₂ (λ (a : ℕ) (r : List ℕ). a ∷ r) (high v (total ws) l) (ap (split ws) (low v (total ws) l) ∙ split_join ws vs f.1)

-- LAW: a word is the word of what its fields hold
pub join_split : (ws : List ℕ) (x : ℕ) → x < 2 ^ total ws → join ws (split ws x) ≡ x
join_split [] x h = omega arith
join_split (w ∷ ws) x h =
    ap (λ (r : ℕ). x / 2 ^ total ws * 2 ^ total ws + r) (join_split ws (x % 2 ^ total ws) (mod-lt x (pow_pos (total ws)))) ∙ Pow.split x (total ws)

pub split_fit : (ws : List ℕ) (x : ℕ) → x < 2 ^ total ws → Fit ws (split ws x)
split_fit [] x h = tt
split_fit (w ∷ ws) x h = (shr_lt w (total ws) h, split_fit ws (x % 2 ^ total ws) (mod-lt x (pow_pos (total ws))))

pub length_split : (ws : List ℕ) (x : ℕ) → length (split ws x) ≡ length ws
length_split [] x = refl
length_split (w ∷ ws) x = ap suc (length_split ws (x % 2 ^ total ws))

pub fit_set : (ws vs : List ℕ) (i v : ℕ) → Fit ws vs → v < 2 ^ get_or ws i 0 → Fit ws (set vs i v)
fit_set [] [] i v f h = tt
fit_set [] (x ∷ vs) i v f h = absurd f
fit_set (w ∷ ws) [] i v f h = absurd f
fit_set (w ∷ ws) (x ∷ vs) zero v f h = (h, f.1)
fit_set (w ∷ ws) (x ∷ vs) (suc i) v f h = (f.0, fit_set ws vs i v f.1 h)
