-- Laws of words with zeros after them, and of a normal form in a room for `capacity` rows. Assumes nothing.
use Rattle.std.specs.Prelude.{ℕ, zero, suc, ◌-◌, ◌*◌, ◌≤◌, ◌<◌, ◌≡◌, refl, List, [], ◌∷◌, ◌++◌, get_or, take, drop, replicate, Ok}
use Rattle.std.proofs.Common.{arith, ◌∙◌, append-nil, length-append, length-drop, take_at}
use borrow.Rule.Slice.PartMut.{put_mid}
use Rattle.std.proofs.Math.ListN.{length, length-take, get_or-eq_default, drop_of_length-le}
use Rattle.std.proofs.lemmas.List.{length-replicate}
use Rattle.std.proofs.Math.Seq.{get_or-take}
use Rattle.selectors.specs.declared.Direction.{Direction}
use Rattle.policy.specs.Words.{row_words}
use Rattle.policy_text.specs.Editions.{Rules}
use Rattle.decorrelate.specs.Form.{form, form_words, padded, form_room, form_answer, form_after}
use Rattle.decorrelate.specs.FormLaws.{form_words-length, form_within}

-- A word that is not there is 0, and so are all of a list of zeros.
zero_word : (n i : ℕ) → ◌≡◌ {A = ℕ} (get_or (replicate n 0) i 0) 0
zero_word zero i = refl
zero_word (suc n) zero = refl
zero_word (suc n) (suc i) = zero_word n i

get_d_zeros : (ws : List ℕ) (n i : ℕ) → get_or (ws ++ replicate n 0) i 0 ≡ get_or ws i 0
get_d_zeros [] n i = zero_word n i
get_d_zeros (w ∷ ws) n zero = refl
get_d_zeros (w ∷ ws) n (suc i) = get_d_zeros ws n i

-- The words with zeros after them, word by word.
module _ (size : ℕ) (ws : List ℕ) (used i : ℕ) where
  pub padded_front : i < used → get_or (padded size (take used ws)) i 0 ≡ get_or ws i 0
  unfolding padded
  padded_front h = get_d_zeros (take used ws) (size - length (take used ws)) i ∙ get_or-take used ws i 0 h

  pub padded_rest : used ≤ i → get_or (padded size (take used ws)) i 0 ≡ 0
  unfolding padded
  padded_rest h =
      get_d_zeros (take used ws) (size - length (take used ws)) i ∙ get_or-eq_default (take used ws) 0 (omega (arith, length-take used ws))

pub padded_size : (size : ℕ) (ws : List ℕ) → length ws ≤ size → length (padded size ws) ≡ size
unfolding padded
padded_size size ws h = omega (arith, length-append ws (replicate (size - length ws) 0), length-replicate {A = ℕ} (size - length ws) 0)

-- The first words of words with zeros after them.
pub padded_start : (size : ℕ) (ws : List ℕ) (n : ℕ) → length ws ≡ n → take n (padded size ws) ≡ ws
unfolding padded
padded_start size ws n e = take_at ws _ n e

-- Words written at the start of a room, and zeros behind them.
pub padded_written : (room ws copied zeros : List ℕ) (n : ℕ) → length ws ≤ length room → copied ≡ ws → n ≡ length room - length ws → zeros ≡ replicate n 0
    → put_mid (length ws) (length (copied ++ drop (length ws) room) - length ws) (copied ++ drop (length ws) room) zeros ≡ padded (length room) ws
unfolding padded
padded_written room ws copied zeros n h e m f =
    let behind : List ℕ = drop (length ws) (ws ++ drop (length ws) room) in
    let none : drop (length (ws ++ drop (length ws) room) - length ws) behind ≡ [] =
    drop_of_length-le behind (omega (arith, length-drop (length ws) (ws ++ drop (length ws) room))) in
    rw (e, f, m, none, take_at ws (drop (length ws) room) (length ws) refl, append-nil (replicate {A = ℕ} (length room - length ws) 0))

-- A room for `capacity` rows with the n rows of a policy's normal form, at most `limit`, and zeros after them.
pub record Held (capacity limit : ℕ) (d : Direction) (rs : Rules) (n : ℕ) (ws : List ℕ) : Type 0 where
  pub few : n ≤ limit
  pub rows : n ≡ length (form d rs)
  pub words : ws ≡ form_room capacity d rs
  pub size : length ws ≡ capacity * row_words
  pub front : take (n * row_words) ws ≡ form_words (form d rs)

pub held : (capacity limit : ℕ) → limit ≤ capacity → (d : Direction) (rs : Rules) (n : ℕ) (old ws : List ℕ)
    → form_answer limit d rs ≡ Ok n → ws ≡ form_after capacity limit d rs old → Held capacity limit d rs n ws
held capacity limit bound d rs n old ws e f =
    let w = form_within limit d rs n e in
    let count : length (form_words (form d rs)) ≡ n * row_words = omega (arith, form_words-length d rs, w.1) in
    let all : ws ≡ form_room capacity d rs = f ∙ w.2 capacity old in
    record {
      few = omega (arith, w.0, w.1);
      rows = w.1;
      words = all;
      size = rw all (padded_size (capacity * row_words) (form_words (form d rs)) (omega (arith, bound, count, w.0, w.1)));
      front = rw all (padded_start (capacity * row_words) (form_words (form d rs)) (n * row_words) count);
    }
