-- Every edition obeys the laws, and a file is of the edition whose header line it begins with. Assumes nothing.
use Rattle.std.specs.Prelude.{ℕ, ◌≡◌, refl, Bool, true, false, ◌⊎◌, length, take, drop}
use Rattle.std.proofs.Common.{arith, sym, ap, ◌∙◌, inl, inr, take-append-drop}
use Rattle.std.proofs.lemmas.Bool.{false≢true}
use mathlib.Core.List.Memᴰ
use mathlib.Core.List.{List, [], ◌∷◌, ◌++◌, append_assoc, Memᴰ}
use Rattle.std.proofs.Math.Option.{some}
use Rattle.std.proofs.Math.Seq.{take-append_seam}
use Rattle.policy_text.specs.declared.Edition.{Edition}
use Rattle.policy_text.specs.declared.Edition.TheVariants.{One}
use Rattle.policy_text.specs.Bytes.{lf, before}
use Rattle.policy_text.proofs.BytesLaws.{same_bytes, same_self}
use Rattle.policy_text.specs.Editions.{format_of, editions, headed, edition_among, edition_of}
use Rattle.policy_round_trip.proofs.CutsLaws.{before_seam}
use Rattle.policy_round_trip.specs.Lawful.{Lawful}
use Rattle.policy_round_trip.proofs.Edition1Laws.{edition1_lawful}

pub lawful : (e : Edition) → Lawful (format_of e)
lawful One = edition1_lawful

-- Every edition is one of those that are tried, and each has a header line of its own.
every : (e : Edition) → Memᴰ e editions
every One = Memᴰ.head refl

header_own : (e o : Edition) → (format_of e).header ≡ (format_of o).header → e ≡ o
header_own One One h = refl

-- Two header lines at the start of one text are the same.
header_prefix : (e o : Edition) (t u : List ℕ) → (format_of e).header ++ t ≡ (format_of o).header ++ u → (format_of e).header ≡ (format_of o).header
header_prefix e o t u same =
    let h = (lawful e).header_line in
    let k = (lawful o).header_line in
    let first : (format_of e).header ++ t ≡ h.words ++ (lf ∷ t) = ap (λ (x : List ℕ). x ++ t) h.ended ∙ append_assoc h.words (lf ∷ []) t in
    let second : (format_of o).header ++ u ≡ k.words ++ (lf ∷ u) = ap (λ (x : List ℕ). x ++ u) k.ended ∙ append_assoc k.words (lf ∷ []) u in
    let words : h.words ≡ k.words =
    sym (before_seam lf h.words t h.one_line) ∙ ap (before lf) (sym first ∙ same ∙ second) ∙ before_seam lf k.words u k.one_line in
    h.ended ∙ ap (λ (x : List ℕ). x ++ (lf ∷ [])) words ∙ sym k.ended

module _ (e : Edition) (t : List ℕ) where
  headed_own : headed (format_of e) ((format_of e).header ++ t) ≡ true
  headed_own = rw (take-append_seam (format_of e).header t) (same_self (format_of e).header)

  headed_only : (o : Edition) → headed (format_of o) ((format_of e).header ++ t) ≡ true → o ≡ e
  headed_only o h =
      let s = (format_of e).header ++ t in
      let n = length (format_of o).header in
      let front : take n s ≡ (format_of o).header = same_bytes _ _ h in
      let whole : (format_of o).header ++ drop n s ≡ s = ap (λ (x : List ℕ). x ++ drop n s) (sym front) ∙ take-append-drop n s in
      header_own o e (header_prefix o e (drop n s) t whole)

-- Of editions of which one alone heads a text, that one is found.
found_among : (es : List Edition) (e : Edition) (s : List ℕ) → Memᴰ e es → headed (format_of e) s ≡ true
    → ((o : Edition) → headed (format_of o) s ≡ true → o ≡ e) → edition_among es s ≡ some e
unfolding edition_among
found_among [] e s m h only = absurd (Memᴰ.not-nil m)
found_among (x ∷ es) e s m h only = by (headed (format_of x) s) refl (Memᴰ.cases_cons m) (λ k. found_among es e s k h only)
  where
    by : (b : Bool) → headed (format_of x) s ≡ b → (e ≡ x) ⊎ Memᴰ e es → (Memᴰ e es → edition_among es s ≡ some e)
        → edition_among (x ∷ es) s ≡ some e
    by true q k rest = rw q (ap some (only x q))
    by false q (inl k) rest = absurd (false≢true (sym q ∙ ap (λ (o : Edition). headed (format_of o) s) (sym k) ∙ h))
    by false q (inr k) rest = rw q (rest k)

-- A text that begins with an edition's header line is of that edition.
pub edition-found : (e : Edition) (t : List ℕ) → edition_of ((format_of e).header ++ t) ≡ some e
edition-found e t = found_among editions e ((format_of e).header ++ t) (every e) (headed_own e t) (headed_only e t)

-- So a file is of an edition exactly where it begins with that edition's header line.
pub edition_is : (e : Edition) (s : List ℕ) → take (length (format_of e).header) s ≡ (format_of e).header → edition_of s ≡ some e
edition_is e s h =
    let n = length (format_of e).header in
    let whole : (format_of e).header ++ drop n s ≡ s = ap (λ (x : List ℕ). x ++ drop n s) (sym h) ∙ take-append-drop n s in
    ap edition_of (sym whole) ∙ edition-found e (drop n s)

heads-among : (es : List Edition) (e : Edition) (s : List ℕ) → edition_among es s ≡ some e → headed (format_of e) s ≡ true
unfolding edition_among
heads-among [] e s q = let z : ◌≡◌ {A = ℕ} 0 1 = cc in absurd (omega arith)
heads-among (x ∷ es) e s q = by (headed (format_of x) s) refl (λ f. heads-among es e s f)
  where
    by : (b : Bool) → headed (format_of x) s ≡ b → (edition_among es s ≡ some e → headed (format_of e) s ≡ true) → headed (format_of e) s ≡ true
    by true f rest =
        let same : some x ≡ some e = rw f at q in
        let one : x ≡ e = cc in
        ap (λ (o : Edition). headed (format_of o) s) (sym one) ∙ f
    by false f rest = rest (rw f at q)

pub edition_heads : (e : Edition) (s : List ℕ) → edition_of s ≡ some e → take (length (format_of e).header) s ≡ (format_of e).header
edition_heads e s q = same_bytes _ _ (heads-among editions e s q)
