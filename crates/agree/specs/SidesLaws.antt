-- Laws of two sides: what a test of an entry says, and that sides agree where no entry of one of them clashes. Assumes nothing.
use Rattle.std.specs.Prelude.{ℕ, zero, suc, ◌+◌, ◌/◌, ◌%◌, ◌≤◌, ◌<◌, ◌≡◌, Bool, not, cond, List, [], ◌∷◌, ◌++◌, ◌≢◌, ◌⊎◌, length, get_or, Option, Some, None}
use Rattle.std.proofs.Common.{arith, sym, ◌∙◌, ⊎_elim, lt-ltb, le-ltb, eqb-true}
use Rattle.std.proofs.Math.Decide.{dec_lt, ℕ_discrete}
use Rattle.std.proofs.Math.Nat.{div-div-eq-div-mul}
use Rattle.std.proofs.Math.Path.{refl}
use Rattle.std.proofs.Math.Bool.{true, false, false≢true}
use Rattle.std.proofs.Math.Logic.{inl, inr}
use Rattle.std.proofs.Math.ListN.{get_or-append}
use Rattle.std.proofs.Math.Seq.{get_or-append_seam}
use Rattle.std.proofs.lemmas.List.{length-append}
use Rattle.std.proofs.lemmas.Bool.{eqb-false}
use Rattle.cover.specs.Boxes.{ranges_word, InBox, row_of, table_of, code_holds, Common, Apart, Covers, Covered}
use Rattle.agree.specs.declared.sides.Side.{Side}
use Rattle.agree.specs.declared.sides.Side.TheVariants.{First, Second}
use Rattle.agree.specs.Sides.{is_second, side_of, on_side, code_action, Sides, sides, count, on_at, action_at, holds_at, on, first_of, Unseen, EntryApart, EntryCovers, EntryCommon, Earlier, Listed, Before, Hidden, Passed, Ended, Peace, Harmless, SameSides, Agreed}

-- The side, the action and the ranges of an entry are those of its code; the end row is on both sides, discards and holds everything.
module _ (es : List ℕ) (s : Bool) (k : ℕ) where
  pub on-entry : k < length es → on_at es s k ≡ on_side s (get_or es k 0)
  unfolding on_at
  on-entry h = rw (lt-ltb k (length es) h)

  pub on_end : length es ≤ k → on_at es s k ≡ true
  unfolding on_at
  on_end h = rw (le-ltb k (length es) h)

module _ (E : Sides) (k : ℕ) where
  pub action_entry : k < count E → action_at E k ≡ code_action E.first E.second (get_or E.codes k 0)
  unfolding action_at
  action_entry h = rw (lt-ltb k (count E) h)

  pub action_end : count E ≤ k → action_at E k ≡ 0
  unfolding action_at
  action_end h = rw (le-ltb k (count E) h)

  holds_entry : (us : List ℕ) → k < count E → holds_at E us k ≡ code_holds E.first E.second E.field (get_or E.codes k 0) us
  unfolding holds_at
  holds_entry us h = rw (lt-ltb k (count E) h)

  holds_end : (us : List ℕ) → count E ≤ k → holds_at E us k ≡ true
  unfolding holds_at
  holds_end us h = rw (le-ltb k (count E) h)

-- Whether two actions are the same does not depend on the field.
pub action_same : (first second es : List ℕ) (f k d x a : ℕ) → x ≡ action_at (sides first second es 0) k → x ≡ a → a ≡ action_at (sides first second es 0) d
    → action_at (sides first second es f) k ≡ action_at (sides first second es f) d
unfolding action_at
action_same first second es f k d x a p q r = sym p ∙ q ∙ r

-- How an entry stands to a box is how the row of its code does.
module _ (E : Sides) (k : ℕ) (bs : List ℕ) where
  abbrev code : ℕ
  code = get_or E.codes k 0

  pub apart_entry : k < count E → Apart (table_of E.first E.second code) (ranges_word (row_of code)) E.field bs → EntryApart E k bs
  unfolding Apart EntryApart
  apart_entry h t us i = holds_entry E k us h ∙ t us i

  pub covers_entry : k < count E → Covers (table_of E.first E.second code) (ranges_word (row_of code)) E.field bs → EntryCovers E k bs
  unfolding Covers EntryCovers
  covers_entry h t us i = holds_entry E k us h ∙ t us i

  pub covers_end : count E ≤ k → EntryCovers E k bs
  unfolding EntryCovers
  covers_end h us i = holds_end E k us h

  pub common_entry : (bs' : List ℕ) → k < count E → Common (table_of E.first E.second code) (ranges_word (row_of code)) E.field bs bs' → EntryCommon E k bs bs'
  unfolding Common EntryCommon
  common_entry bs' h t us i e = t us i (sym (holds_entry E k us h) ∙ e)

  pub common_all : EntryCommon E k bs bs
  unfolding EntryCommon
  common_all us i e = i

-- Codes are listed in their order: none, one more, or one that is passed over.
module _ (es : List ℕ) (s : Bool) (d : ℕ) (list : List ℕ) where
  listed_later : (k j e : ℕ) → k ≤ j → Listed es s d k e → Listed es s d j e
  listed_later k j e h l = record { place = l.place; below = omega (arith, l.below); code = l.code; earlier = l.earlier }

  pub before_none : Before es s d 0 []
  unfolding Before
  before_none i h = absurd (omega arith)

  module _ (j : ℕ) (t : Before es s d j list) where
    pub before_passed : Before es s d (j + 1) list
    unfolding Before
    before_passed i h = listed_later j (j + 1) _ (omega arith) (t i h)

    pub before_more : Earlier s d (get_or es j 0) j → Before es s d (j + 1) (list ++ get_or es j 0 ∷ [])
    unfolding Before
    before_more r i h = by (dec_lt i (length list))
      where
        by : Dec (i < length list) → Listed es s d (j + 1) (get_or (list ++ get_or es j 0 ∷ []) i 0)
        by (yes m) = rw (get_or-append list (get_or es j 0 ∷ []) 0 i m) (before_passed i m)
        by (no m) =
            let e : i ≡ length list = omega (arith, length-append list (get_or es j 0 ∷ [])) in
            rw (e, get_or-append_seam list (get_or es j 0) [] 0) record { place = j; below = omega arith; code = refl; earlier = r }

    pub before-next : (list' : List ℕ) → (Earlier s d (get_or es j 0) j × (list' ≡ list ++ get_or es j 0 ∷ [])) ⊎ (list' ≡ list) → Before es s d (j + 1) list'
    before-next list' o = ⊎_elim (λ w. rw w.1 (before_more w.0)) (λ w. rw w before_passed) o

-- A code that comes before on its own side, or is on the other.
module _ (s : Bool) (d e j : ℕ) where
  pub earlier_other : on_side (not s) e ≡ true → Earlier s d e j
  unfolding Earlier
  earlier_other h = inl h

  pub earlier_own : j < d → on_side s e ≡ true → Earlier s d e j
  unfolding Earlier
  earlier_own h q = inr (h, q)

-- What may come before an entry and another in a box, and what the two are to each other there.
module _ (E : Sides) (s : Bool) (d : ℕ) (bs : List ℕ) where
  pub listed_hide : (k : ℕ) (list : List ℕ) → k ≤ count E → Before E.codes s d k list → Covered E.first E.second list E.field bs → Hidden E s d k bs
  unfolding Before Covered Hidden Unseen Earlier
  listed_hide k list g b t us i u = t us i (λ m h. miss (get_or list m 0) (b m h))
    where
      missed : (e : ℕ) (l : Listed E.codes s d k e) → holds_at E us l.place ≡ false → code_holds E.first E.second E.field e us ≡ false
      missed e l h = rw l.code (sym (holds_entry E l.place us (omega (arith, l.below))) ∙ h)

      side : (e : ℕ) (l : Listed E.codes s d k e) (r : Bool) → on_side r e ≡ true → on E r l.place ≡ true
      side e l r h = on-entry E.codes r l.place (omega (arith, l.below)) ∙ (rw l.code at h)

      miss : (e : ℕ) → Listed E.codes s d k e → code_holds E.first E.second E.field e us ≡ false
      miss e l =
          ⊎_elim (λ w. missed e l (u.1 l.place l.below (side e l (not s) w))) (λ w. missed e l (u.0 l.place w.0 (side e l s w.1))) l.earlier

  module _ (k : ℕ) where
    pub passed_off : on E (not s) k ≡ false → Passed E s d k bs
    unfolding Passed
    passed_off h us i c = false≢true (sym h ∙ c.on_other)

    pub passed_same : action_at E k ≡ action_at E d → Passed E s d k bs
    unfolding Passed
    passed_same h us i c = c.acts h

    pub passed_apart : EntryApart E k bs → Passed E s d k bs
    unfolding Passed EntryApart
    passed_apart h us i c = false≢true (sym (h us i) ∙ c.other)

    pub passed_hidden : (shared : List ℕ) → EntryCommon E k bs shared → Hidden E s d k shared → Passed E s d k bs
    unfolding Passed EntryCommon Hidden
    passed_hidden shared t h us i c = h us (t us i c.other) c.unseen

    passed-behind : (j : ℕ) → k < j → on E (not s) k ≡ true → EntryCovers E k bs → Passed E s d j bs
    unfolding Passed EntryCovers Unseen
    passed-behind j h o t us i c = false≢true (sym (c.unseen.1 k h o) ∙ t us i)

    pub ended : on E (not s) k ≡ true → EntryCovers E k bs → action_at E k ≡ action_at E d → Ended E s d k bs
    unfolding Ended
    ended o t a j h = by (ℕ_discrete j k)
      where
        by : Dec (j ≡ k) → Passed E s d j bs
        by (yes m) = rw m (passed_same a)
        by (no m) = passed-behind j (omega (arith, m)) o t

    pub peace-behind : (to : ℕ) → on E (not s) k ≡ true → EntryCovers E k bs → Peace E s d (suc k) to bs
    unfolding Peace
    peace-behind to o t j l h c = passed-behind j (omega arith) o t

    pub peace_none : Peace E s d k k bs
    unfolding Peace
    peace_none j l h c = absurd (omega arith)

  -- Peace up to an entry, at it, and behind it.
  module _ (from k : ℕ) (p : Peace E s d from k bs) where
    pub peace_more : Passed E s d k bs → Peace E s d from (k + 1) bs
    unfolding Peace
    peace_more q j l h c = by (ℕ_discrete j k)
      where
        by : Dec (j ≡ k) → Passed E s d j bs
        by (yes m) = rw m q
        by (no m) = p j l (omega (arith, m)) c

    pub peace_ended : (to : ℕ) → Ended E s d k bs → Peace E s d from to bs
    unfolding Peace Ended
    peace_ended to q j l h c = by (dec_lt j k)
      where
        by : Dec (j < k) → Passed E s d j bs
        by (yes m) = p j l m c
        by (no m) = q j (omega arith)

    pub peace-on : (k' : ℕ) → Passed E s d k bs → Peace E s d (suc k) k' bs → Peace E s d from k' bs
    unfolding Peace
    peace-on k' q r j l h c = by (ℕ_discrete j k) (dec_lt j k)
      where
        by : Dec (j ≡ k) → Dec (j < k) → Passed E s d j bs
        by (yes m) n = rw m q
        by (no m) (yes n) = p j l n c
        by (no m) (no n) = r j (omega (arith, m)) h c

    pub peace_then : (to : ℕ) → Peace E s d k to bs → Peace E s d from to bs
    unfolding Peace
    peace_then to r j l h c = by (dec_lt j k)
      where
        by : Dec (j < k) → Passed E s d j bs
        by (yes m) = p j l m c
        by (no m) = r j (omega arith) h c

    pub peace_end : count E < k → Peace E s d from (suc (count E)) bs
    unfolding Peace
    peace_end h j l g c = p j l (omega arith) c

  -- An entry that is hidden is harmless; and what is so in the box that it shares with another is so in that.
  pub hidden_peace : Hidden E s d d bs → (to : ℕ) → Peace E s d d to bs
  unfolding Hidden Peace Passed Unseen
  hidden_peace h to k l g c us i w = h us i (w.unseen.0, λ j m. w.unseen.1 j (omega arith))

  pub harmless_own : (own : List ℕ) → EntryCommon E d bs own → (from to : ℕ) → from ≤ suc d → Peace E s d from to own → Peace E s d (suc d) to bs
  unfolding Peace Passed EntryCommon
  harmless_own own t from to h p k l g c us i w = p k (omega arith) g c us (t us i w.own) w

-- The side of a code that is on one side only.
module _ (e : ℕ) where
  pub lone_first : e % 4 ≡ 1 → (s : Bool) → on_side s e ≡ true → on_side (not s) e ≡ false → Some First ≡ Some (side_of s)
  lone_first h true p q = absurd (omega (arith, eqb-true (e / 2 % 2) 1 p))
  lone_first h false p q = refl

  pub lone_second : e % 4 ≡ 2 → (s : Bool) → on_side s e ≡ true → on_side (not s) e ≡ false → Some Second ≡ Some (side_of s)
  lone_second h true p q = refl
  lone_second h false p q = absurd (omega (arith, eqb-true (e % 2) 1 p))

  pub lone_none : e % 4 ≢ 1 → e % 4 ≢ 2 → (s : Bool) → on_side s e ≡ true → on_side (not s) e ≡ false → None ≡ Some (side_of s)
  lone_none h g true p q = absurd (omega (arith, h, g, eqb-true (e / 2 % 2) 1 p, eqb-false (e % 2) 1 q, div-div-eq-div-mul e 2 2))
  lone_none h g false p q = absurd (omega (arith, h, g, eqb-true (e % 2) 1 p, eqb-false (e / 2 % 2) 1 q, div-div-eq-div-mul e 2 2))

-- An entry is on one side only: the one that is named, or none.
module _ (E : Sides) (d : ℕ) (bs : List ℕ) (h : d < count E) (r : Option Side)
    (t : (s : Bool) → on_side s (get_or E.codes d 0) ≡ true → on_side (not s) (get_or E.codes d 0) ≡ false → r ≡ Some (side_of s)) where
  lone_side : (s : Bool) → on E s d ≡ true → on E (not s) d ≡ false → r ≡ Some (side_of s)
  lone_side s p q = t s (sym (on-entry E.codes s d h) ∙ p) (sym (on-entry E.codes (not s) d h) ∙ q)

  pub same_none : r ≡ None → SameSides E d bs
  unfolding SameSides
  same_none z s p q = absurd (let e = lone_side s p q in cc)

  pub same_lone : (side : Side) → r ≡ Some side → Harmless E (is_second side) d bs → SameSides E d bs
  unfolding SameSides
  same_lone First z g true p q = absurd (let e : First ≡ Second = let l = lone_side true p q in cc in cc)
  same_lone First z g false p q = g
  same_lone Second z g true p q = g
  same_lone Second z g false p q = absurd (let e : Second ≡ First = let l = lone_side false p q in cc in cc)

-- The first place of n from i on at which a test is true.
record Foremost (p : ℕ → Bool) (i n k : ℕ) : Type 0 where
  within : k ≤ i + n
  none : (j : ℕ) → i ≤ j → j < k → p j ≡ false
  found : k < i + n → p k ≡ true

first-of : (p : ℕ → Bool) (i n : ℕ) → Foremost p i n (first_of p i n)
unfolding first_of
first-of p i zero = record { within = omega arith; none = λ j l h. absurd (omega arith); found = λ h. absurd (omega arith) }
first-of p i (suc n) = by (p i) refl (first_of p (suc i) n) (first-of p (suc i) n)
  where
    by : (b : Bool) → p i ≡ b → (k : ℕ) → Foremost p (suc i) n k → Foremost p i (suc n) (cond (p i) i k)
    by true e k r = rw e record { within = omega arith; none = λ j l h. absurd (omega arith); found = λ h. e }
    by false e k r = rw e record { within = omega (arith, r.within); none = λ j l h. at j l h (ℕ_discrete j i); found = λ h. r.found (omega arith) }
      where
        at : (j : ℕ) → i ≤ j → j < k → Dec (j ≡ i) → p j ≡ false
        at j l h (yes m) = rw m e
        at j l h (no m) = r.none j (omega (arith, m)) h

-- The first entries of the two sides that hold some values.
seen_true : (a b : Bool) → cond a b false ≡ true → (a ≡ true) × (b ≡ true)
seen_true true b e = (refl, e)
seen_true false b e = absurd (false≢true e)

seen_false : (a b : Bool) → cond a b false ≡ false → a ≡ true → b ≡ false
seen_false true b e h = e
seen_false false b e h = absurd (false≢true h)

module _ (E : Sides) (us : List ℕ) where
  abbrev sees : Bool → ℕ → Bool
  sees s k = cond (on E s k) (holds_at E us k) false

  abbrev first_on : Bool → ℕ
  first_on s = first_of (sees s) 0 (count E)

  first_within : (s : Bool) → first_on s ≤ count E
  first_within s = omega (arith, (first-of (sees s) 0 (count E)).within)

  none_before : (s : Bool) (j : ℕ) → j < first_on s → on E s j ≡ true → holds_at E us j ≡ false
  none_before s j h o = seen_false (on E s j) (holds_at E us j) ((first-of (sees s) 0 (count E)).none j (omega arith) h) o

  first_seen : (s : Bool) → (on E s (first_on s) ≡ true) × (holds_at E us (first_on s) ≡ true)
  first_seen s = by (dec_lt (first_on s) (count E))
    where
      by : Dec (first_on s < count E) → (on E s (first_on s) ≡ true) × (holds_at E us (first_on s) ≡ true)
      by (yes h) = seen_true (on E s (first_on s)) (holds_at E us (first_on s)) ((first-of (sees s) 0 (count E)).found (omega arith))
      by (no h) = (on_end E.codes s (first_on s) (omega arith), holds_end E (first_on s) us (omega arith))

  module _ (bs : List ℕ) (i : InBox E.field bs us) (t : (d : ℕ) → d < count E → SameSides E d bs) where
    -- The first of one side is before that of the other: then it is not on the other side, and does not clash.
    one-before : (s : Bool) → first_on s < first_on (not s) → action_at E (first_on (not s)) ≡ action_at E (first_on s)
    unfolding SameSides Peace Passed Unseen
    one-before s h = by (ℕ_discrete (action_at E (first_on (not s))) (action_at E (first_on s))) (on E (not s) (first_on s)) refl
      where
        by : Dec (action_at E (first_on (not s)) ≡ action_at E (first_on s)) → (b : Bool) → on E (not s) (first_on s) ≡ b
            → action_at E (first_on (not s)) ≡ action_at E (first_on s)
        by (yes m) b e = m
        by (no m) true e = absurd (false≢true (sym (none_before (not s) (first_on s) h e) ∙ (first_seen s).1))
        by (no m) false e =
            absurd (t (first_on s) (omega (arith, first_within (not s))) s (first_seen s).0 e (first_on (not s)) (omega arith) (omega (arith, first_within (not s))) (first_within (not s)) us i record {
              unseen = (none_before s, none_before (not s));
              own = (first_seen s).1;
              on_other = (first_seen (not s)).0;
              other = (first_seen (not s)).1;
              acts = m;
            })

    same_action : action_at E (first_on false) ≡ action_at E (first_on true)
    same_action = by (dec_lt (first_on false) (first_on true)) (dec_lt (first_on true) (first_on false))
      where
        by : Dec (first_on false < first_on true) → Dec (first_on true < first_on false) → action_at E (first_on false) ≡ action_at E (first_on true)
        by (yes h) g = sym (one-before false h)
        by (no h) (yes g) = one-before true g
        by (no h) (no g) = let e : first_on false ≡ first_on true = omega arith in rw e

pub sides_agree : (E : Sides) (bs : List ℕ) → ((d : ℕ) → d < count E → SameSides E d bs) → Agreed E bs
unfolding Agreed
sides_agree E bs t us i = same_action E us bs i t
