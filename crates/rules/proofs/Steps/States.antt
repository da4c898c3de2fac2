-- What the tests of a state and of an entry say. Assumes nothing.
use mathlib.Core.Bool.{false, not, true, true≢false}
use mathlib.Core.Logic.{inl, inr, ◌⊎◌}
use mathlib.Core.Path.{refl, sym, ◌≡◌}
use Rattle.rules.specs.State.{Entry, State, absent, hole, is_absent, is_marked, is_own, is_stored, is_unmapped, is_virgin, live, marked, own, stored, unmapped, virgin}

-- the state that passes its test
pub marked_is : (l : State) → is_marked l ≡ true → l ≡ marked
marked_is absent h = absurd (true≢false (sym h))
marked_is own h = absurd (true≢false (sym h))
marked_is virgin h = absurd (true≢false (sym h))
marked_is marked h = refl

pub absent_is : (l : State) → is_absent l ≡ true → l ≡ absent
absent_is absent h = refl
absent_is own h = absurd (true≢false (sym h))
absent_is virgin h = absurd (true≢false (sym h))
absent_is marked h = absurd (true≢false (sym h))

pub own_is : (l : State) → is_own l ≡ true → l ≡ own
own_is absent h = absurd (true≢false (sym h))
own_is own h = refl
own_is virgin h = absurd (true≢false (sym h))
own_is marked h = absurd (true≢false (sym h))

pub virgin_is : (l : State) → is_virgin l ≡ true → l ≡ virgin
virgin_is absent h = absurd (true≢false (sym h))
virgin_is own h = absurd (true≢false (sym h))
virgin_is virgin h = refl
virgin_is marked h = absurd (true≢false (sym h))

-- own or virgin
pub live_of : (l : State) → is_absent l ≡ false → is_marked l ≡ false → live l ≡ true
live_of absent h k = absurd (true≢false h)
live_of own h k = refl
live_of virgin h k = refl
live_of marked h k = absurd (true≢false k)

pub live_present : (l : State) → live l ≡ true → is_absent l ≡ false
live_present absent h = absurd (true≢false (sym h))
live_present own h = refl
live_present virgin h = refl
live_present marked h = refl

pub live_unmarked : (l : State) → live l ≡ true → is_marked l ≡ false
live_unmarked absent h = refl
live_unmarked own h = refl
live_unmarked virgin h = refl
live_unmarked marked h = absurd (true≢false (sym h))

pub own_or_virgin : (l : State) → live l ≡ true → (l ≡ own) ⊎ (l ≡ virgin)
own_or_virgin absent h = absurd (true≢false (sym h))
own_or_virgin own h = inl refl
own_or_virgin virgin h = inr refl
own_or_virgin marked h = absurd (true≢false (sym h))

pub alive_own : (l : State) → live l ≡ true → (l ≡ virgin → ⊥) → l ≡ own
alive_own absent h k = absurd (true≢false (sym h))
alive_own own h k = refl
alive_own virgin h k = absurd (k refl)
alive_own marked h k = absurd (true≢false (sym h))

-- neither absent, virgin nor marked
pub other_own : (l : State) → is_absent l ≡ false → not (is_virgin l) ≡ true → not (is_marked l) ≡ true → l ≡ own
other_own absent a v m = absurd (true≢false a)
other_own own a v m = refl
other_own virgin a v m = absurd (true≢false (sym v))
other_own marked a v m = absurd (true≢false (sym m))

-- the entry that passes its test
module _ {K : Type 0} where
  pub unmapped_is : (e : Entry K) → is_unmapped e ≡ true → e ≡ unmapped
  unmapped_is unmapped h = refl
  unmapped_is hole h = absurd (true≢false (sym h))
  unmapped_is (stored b) h = absurd (true≢false (sym h))

  pub stored_is : (e : Entry K) → is_stored e ≡ true → (b : K) × (e ≡ stored b)
  stored_is unmapped h = absurd (true≢false (sym h))
  stored_is hole h = absurd (true≢false (sym h))
  stored_is (stored b) h = (b, refl)
