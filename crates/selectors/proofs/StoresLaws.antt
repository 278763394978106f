-- Laws of words that were replaced, and of runs of stores. Assumes nothing.
use Rattle.std.specs.Prelude.{ℕ, suc, ◌+◌, ◌-◌, ◌≤◌, ◌<◌, ◌≡◌, refl, List, [], ◌∷◌, ◌++◌, length, get_or, set, take, drop}
use Rattle.std.proofs.Common.{arith, add-zero, sym, ap, ◌∙◌, length-take-le, get_or-take, get_or-drop, get_or-append-add}
use Rattle.std.proofs.Math.ListN.{get_or-append}
use Rattle.std.proofs.Math.Seq.{set_out, paste, length_paste_head}
use Rattle.std.proofs.lemmas.List.Edits.{sets, drop-paste}

-- The words after n of them from the place `at` on were replaced: before those, among them, and after them.
module _ (ws s : List ℕ) (at n : ℕ) (h : at + n ≤ length ws) (g : n ≤ length s) where
  pub paste-before : (p : ℕ) → p < at → get_or (paste ws at s n) p 0 ≡ get_or ws p 0
  paste-before p l =
      get_or-append (take at ws ++ take n s) (drop (at + n) ws) 0 p (omega (arith, length_paste_head ws at s n (omega arith) g))
      ∙ get_or-append (take at ws) (take n s) 0 p (omega (arith, length-take-le at ws (omega arith)))
      ∙ get_or-take at ws p 0 l

  pub paste_in : (x : ℕ) → x < n → get_or (paste ws at s n) (at + x) 0 ≡ get_or s x 0
  paste_in x l =
      get_or-append (take at ws ++ take n s) (drop (at + n) ws) 0 (at + x) (omega (arith, length_paste_head ws at s n (omega arith) g))
      ∙ ap (λ k. get_or (take at ws ++ take n s) (k + x) 0) (sym (length-take-le at ws (omega arith)))
      ∙ get_or-append-add (take at ws) (take n s) x 0
      ∙ get_or-take n s x 0 l

  pub paste-after : (p : ℕ) → at + n ≤ p → get_or (paste ws at s n) p 0 ≡ get_or ws p 0
  paste-after p l =
      let e : p ≡ at + n + (p - (at + n)) = omega arith in
      ap (λ k. get_or (paste ws at s n) k 0) e
      ∙ sym (get_or-drop (at + n) (paste ws at s n) (p - (at + n)) 0)
      ∙ ap (λ (l : List ℕ). get_or l (p - (at + n)) 0) (drop-paste ws at s n (omega arith) g)
      ∙ get_or-drop (at + n) ws (p - (at + n)) 0
      ∙ ap (λ k. get_or ws k 0) (sym e)

-- A run of stores after another is one run.
pub sets_more : (l : List ℕ) (at : ℕ) (xs ys : List ℕ) → sets (sets l at xs) (at + length xs) ys ≡ sets l at (xs ++ ys)
sets_more l at [] ys = rw add-zero
sets_more l at (x ∷ xs) ys =
    let e : at + suc (length xs) ≡ suc at + length xs = omega arith in
    rw e (sets_more (set l at x) (suc at) xs ys)

-- A run that begins past the end stores nothing.
pub sets_out : (l : List ℕ) (at : ℕ) (xs : List ℕ) → length l ≤ at → sets l at xs ≡ l
sets_out l at [] h = refl
sets_out l at (x ∷ xs) h = rw (set_out l at x h) (sets_out l (suc at) xs (omega arith))
