-- Steps of a call, one after another, and loops of them. Assumes nothing.
use mathlib.Core.Bool.{true}
use mathlib.Core.List.{List}
use mathlib.Core.Path.{ap, refl, subst, sym, ◌∙◌, ◌≡◌}
use Prim.Native.Nat.{ℕ}
use Rattle.copying.specs.Work.{Does, FirstChild, Going, Ready, Rest, Step, work}
use Rattle.rules.specs.Rules.{Work}
use Rattle.rules.specs.State.{Entry, SetRecord, Tables}
use Rattle.rules.specs.Storage.{PageData, real}
use Rattle.tables.specs.Calls.{pages_of}
use Rattle.tables.specs.Packed.{unpack}
use Rattle.copying.specs.declared.giving.Counts.{Counts}

-- ---- what a step does

module _ {tb : Tables} {pg : ℕ → PageData} {f : ℕ} {k : Counts} where
  pub does_none : Does tb pg tb pg f k k (λ w. w)
  does_none = record { same = refl; does = λ h. refl }

  module _ {tb₁ : Tables} {pg₁ : ℕ → PageData} {k₁ : Counts} {op : Work real → Work real} where
    -- the same step by another name
    pub does_as : (op' : Work real → Work real) → ((h : ℕ → Entry ℕ) → op (work tb pg f h k) ≡ op' (work tb pg f h k)) → Does tb pg tb₁ pg₁ f k k₁ op → Does tb pg tb₁ pg₁ f k k₁ op'
    does_as op' e d = record { same = d.same; does = λ h. d.does h ∙ e h }

    -- one after another
    pub does_then : {tb₂ : Tables} {pg₂ : ℕ → PageData} {k₂ : Counts} {op₁ : Work real → Work real} → Does tb pg tb₁ pg₁ f k k₁ op → Does tb₁ pg₁ tb₂ pg₂ f k₁ k₂ op₁
        → Does tb pg tb₂ pg₂ f k k₂ (λ w. op₁ (op w))
    does_then {op₁} a b = record { same = b.same ∙ a.same; does = λ h. b.does h ∙ ap op₁ (a.does h) }

-- ---- steps

module _ {t p : List ℕ} {f : ℕ} {k : Counts} where
  pub step_none : Ready t p f k → Step t p t p f k k (λ w. w)
  step_none re = record { step = does_none; ready = re }

  module _ {t₁ p₁ : List ℕ} {k₁ : Counts} {op : Work real → Work real} where
    pub step_as : (op' : Work real → Work real) → ((h : ℕ → Entry ℕ) → op (work (unpack t) (pages_of p) f h k) ≡ op' (work (unpack t) (pages_of p) f h k))
        → Step t p t₁ p₁ f k k₁ op → Step t p t₁ p₁ f k k₁ op'
    step_as op' e s = record { step = does_as op' e s.step; ready = s.ready }

    pub step_then : {t₂ p₂ : List ℕ} {k₂ : Counts} {op₁ : Work real → Work real} → Step t p t₁ p₁ f k k₁ op → Step t₁ p₁ t₂ p₂ f k₁ k₂ op₁ → Step t p t₂ p₂ f k k₂ (λ w. op₁ (op w))
    step_then a b = record { step = does_then a.step b.step; ready = b.ready }

    -- what no step changes
    pub step_sets : Step t p t₁ p₁ f k k₁ op → (unpack t₁).sets ≡ (unpack t).sets
    step_sets s = ap (λ (r : Rest). r.sets) s.step.same

    pub step_blocks : Step t p t₁ p₁ f k k₁ op → (unpack t₁).blocks ≡ (unpack t).blocks
    step_blocks s = ap (λ (r : Rest). r.blocks) s.step.same

    pub step_used : (s : ℕ) → Step t p t₁ p₁ f k k₁ op → ((unpack t).sets s).used ≡ true → ((unpack t₁).sets s).used ≡ true
    step_used s x u = ap (λ (y : ℕ → SetRecord). (y s).used) (step_sets x) ∙ u

    pub step_first : (s c : ℕ) → Step t p t₁ p₁ f k k₁ op → FirstChild (unpack t).sets s c → FirstChild (unpack t₁).sets s c
    step_first s c x h = subst (λ (y : ℕ → SetRecord). FirstChild y s c) (sym (step_sets x)) h

-- ---- loops: what is done, then what is to do, is the whole

pub going_start : {t p : List ℕ} {f : ℕ} {k : Counts} (op : Work real → Work real) → Ready t p f k → Going t p t p f k k op op
going_start op re = record { same = refl; ready = re; whole = λ h. refl }

module _ {t₀ p₀ t p : List ℕ} {f : ℕ} {k₀ k : Counts} {op todo : Work real → Work real} (g : Going t₀ p₀ t p f k₀ k op todo) where
  -- one more turn
  pub going_more : {t' p' : List ℕ} {k' : Counts} {one : Work real → Work real} (next : Work real → Work real) → ((w : Work real) → todo w ≡ next (one w)) → Step t p t' p' f k k' one
      → Going t₀ p₀ t' p' f k₀ k' op next
  going_more next e s = record {
    same = s.step.same ∙ g.same;
    ready = s.ready;
    whole = λ h. g.whole h ∙ e (work (unpack t) (pages_of p) f h k) ∙ ap next (sym (s.step.does h));
  }

  -- nothing is left to do
  pub going_done : ((w : Work real) → todo w ≡ w) → Step t₀ p₀ t p f k₀ k op
  going_done e = record { step = record { same = g.same; does = λ h. sym (g.whole h ∙ e (work (unpack t) (pages_of p) f h k)) }; ready = g.ready }

  -- the same left to do, by another name
  pub going_as : (next : Work real → Work real) → ((w : Work real) → todo w ≡ next w) → Going t₀ p₀ t p f k₀ k op next
  going_as next e = record { same = g.same; ready = g.ready; whole = λ h. g.whole h ∙ e (work (unpack t) (pages_of p) f h k) }

  pub going_sets : (unpack t).sets ≡ (unpack t₀).sets
  going_sets = ap (λ (r : Rest). r.sets) g.same

  pub going_first : (s c : ℕ) → FirstChild (unpack t₀).sets s c → FirstChild (unpack t).sets s c
  going_first s c h = subst (λ (y : ℕ → SetRecord). FirstChild y s c) (sym going_sets) h
