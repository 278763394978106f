-- The loop over a field in words: what it has laid out when it comes to a value, one turn, and its three ends. Assumes nothing.
use Prim.Native.Nat.{ℕ, suc, ◌+◌, ◌-◌, ◌*◌, ◌≤◌, ◌<◌, min}
use native.Mathlib.Omega.{arith}
use Rattle.std.proofs.Math.Decide.{dec_le}
use Rattle.std.proofs.Math.Nat.{min-eq_left}
use Rattle.std.proofs.Common.{add-one, sym, ◌∙◌, ⊎_elim, length-drop, length-take-le, get_or-take, get_or-append-add, le-leb}
use Rattle.std.specs.Prelude.{◌≡◌, refl, List, [], ◌∷◌, ◌++◌, ◌⊎◌, length, get_or, take, drop, Option, Some, None, Result, Ok, Err}
use Rattle.std.proofs.Math.Path.{ap}
use Rattle.std.proofs.lemmas.Bool.{lt-leb}
use Rattle.std.proofs.Math.ListN.{get_or-append}
use borrow.Rule.Slice.PartMut.{put_mid}
use Rattle.selectors.specs.Value.{number}
use Rattle.selectors.specs.Words.{field_count, value_words, value_of, values_from}
use Rattle.selectors.specs.declared.Value.{Value}
use Rattle.normal_form.specs.Search.{Row}
use Rattle.normal_form.specs.NormalForm.{rows_of, runs}
use Rattle.policy.specs.Words.{row_words}
use Rattle.cover.specs.RangesLaws.{written}
use Rattle.layout.specs.Parting.{Parting, parting-≟}
use Rattle.layout.specs.Decode.{sizes_from, part_rows}
use Rattle.layout.specs.DecodeLaws.{rows_moved, rows-length}
use Rattle.layout.specs.Steps.{form_at, words_for, LaidOut, SearchAlike, IntervalEnd, Stamped, Merged, Begun, Placed}
use Rattle.layout.specs.StepsLaws.{stamped_done, laid-rows, laid_over, words-next}
use Rattle.layout.specs.FormLaws.{form-field, form_alike, values_with}
use Rattle.layout.specs.TurnLaws.{Reached, reached_start, reached_rows, reached-length, reached_merged, reached_again, reached_begun, rows_grow, layout_within}
use Rattle.layout.specs.Stretches.{Joins, StretchOut, PlacedStretch}
use Rattle.layout.specs.declared.Kept.{Kept}
use Rattle.layout.specs.declared.branch.Task.{Task}
use Rattle.layout.specs.declared.LayoutError.{LayoutError}
use Rattle.layout.specs.declared.LayoutError.TheVariants.{Over}

module _ (first second : List ℕ) (task : Task) (before : List ℕ) (f : ℕ) where
  -- The layout behind the value v of the field f.
  abbrev pub layout_at : ℕ → List (Row Parting)
  layout_at v = form_at first second task (before ++ v ∷ []) (f + 1) (field_count - (f + 1))

  -- The loop has come to the value v.
  pub record Progress (ws : List ℕ) (kept : Kept) (v : ℕ) : Type 0 where
    pub ordered : kept.last ≤ kept.next
    pub reached : Reached parting-≟ layout_at v (part_rows f (suc (field_count - (f + 1))) ws 0 kept.last)
        (part_rows (f + 1) (field_count - (f + 1)) ws kept.last (kept.next - kept.last)) (number kept.low)

  pub progress_start : (ws : List ℕ) (kept : Kept) (v : ℕ) → kept.last ≡ 0 → kept.next ≡ 0 → v ≡ 0 → Progress ws kept v
  unfolding part_rows
  progress_start ws kept v p q e = record { ordered = omega arith; reached = rw (p, q, e) (reached_start parting-≟ layout_at (number kept.low)) }

  -- The form, by the intervals of the field's values.
  form-next : f < field_count → form_at first second task before f (field_count - f) ≡ rows_of (runs parting-≟ layout_at (value_of task.highest.words f + 1))
  unfolding sizes_from
  form-next h =
      let e : field_count - f ≡ suc (field_count - (f + 1)) = omega arith in
      ap (form_at first second task before f) e ∙ form-field _ _ _ before _ _

  -- A layout behind a value over the limit, and rows over the limit so far: the form is over the limit.
  pub over-behind : f < field_count → (limit v : ℕ) → v ≤ value_of task.highest.words f → limit < length (layout_at v) → (ws : List ℕ)
      → LaidOut limit f (field_count - f) (form_at first second task before f (field_count - f)) ws (Err Over)
  over-behind h limit v g o ws =
      laid_over limit f (field_count - f) _ ws
      (rw (form-next h) (omega (arith, layout_within parting-≟ layout_at v (value_of task.highest.words f + 1) (omega arith))))

  length_so_far : (ws : List ℕ) (kept : Kept) (v : ℕ) → Progress ws kept v → length (rows_of (runs parting-≟ layout_at v)) ≡ kept.next
  length_so_far ws kept v p =
      reached-length parting-≟ layout_at v _ _ _ p.reached ∙ rw (rows-length, rows-length) (omega (arith, p.ordered))

  pub over_so_far : f < field_count → (limit : ℕ) (ws : List ℕ) (kept : Kept) (v : ℕ) → Progress ws kept v → v ≤ value_of task.highest.words f + 1 → limit < kept.next
      → (ws' : List ℕ) → LaidOut limit f (field_count - f) (form_at first second task before f (field_count - f)) ws' (Err Over)
  over_so_far h limit ws kept v p g o ws' =
      laid_over limit f (field_count - f) _ ws'
      (rw (form-next h) (omega (arith, length_so_far ws kept v p, rows_grow parting-≟ layout_at v (value_of task.highest.words f + 1) g)))

  -- The last interval ends with the field: all is laid out.
  pub laid_out : f < field_count → (limit : ℕ) (ws ws' : List ℕ) (kept : Kept) (top : ℕ) → top ≡ value_of task.highest.words f → Progress ws kept (top + 1) → kept.next ≤ limit
      → Stamped f (field_count - (f + 1)) kept.last kept.next (number kept.low) top ws ws'
      → LaidOut limit f (field_count - f) (form_at first second task before f (field_count - f)) ws' (Ok kept.next)
  laid_out h limit ws ws' kept top e p g s =
      let k : field_count - f ≡ suc (field_count - (f + 1)) = omega arith in
      let t : top + 1 - 1 ≡ top = omega arith in
      laid-rows limit f (field_count - f) _ ws' kept.next
      (rw k (stamped_done f _ _ _ _ _ ws ws' s (omega arith) p.ordered)
      ∙ rw t at (sym (reached_rows parting-≟ layout_at (top + 1) _ _ _ p.reached))
      ∙ ap (λ (v : ℕ). rows_of (runs parting-≟ layout_at (v + 1))) e
      ∙ sym (form-next h))
      g

  -- One turn: the values v to w are alike. The rows so far are as before.
  module _ (h : f < field_count) (v w : ℕ) (g : v ≤ w)
      (a : SearchAlike task.direction first before v w) (b : SearchAlike task.direction second before v w)
      (ws ws' : List ℕ) (old : Kept) (p : Progress ws old v)
      (same : (j : ℕ) → j < old.next * row_words → get_or ws' j 0 ≡ get_or ws j 0) where
    alike : (u : ℕ) → v ≤ u → u ≤ w → layout_at u ≡ layout_at v
    alike = form_alike task.direction first second before _ v w a b

    kept_rows : part_rows f (suc (field_count - (f + 1))) ws' 0 old.last ≡ part_rows f (suc (field_count - (f + 1))) ws 0 old.last
    kept_rows = rows_moved ws ws' f _ (omega arith) 0 0 old.last (λ k q. same _ (omega (arith, p.ordered)))

    kept_block : part_rows (f + 1) (field_count - (f + 1)) ws' old.last (old.next - old.last) ≡ part_rows (f + 1) (field_count - (f + 1)) ws old.last (old.next - old.last)
    kept_block = rows_moved ws ws' (f + 1) _ (omega arith) old.last old.last (old.next - old.last) (λ k q. same _ (omega (arith, p.ordered)))

    -- The layout behind them is known to be that of the value before.
    pub again-turn : Joins v layout_at → Progress ws' old (w + 1)
    unfolding Joins
    again-turn j =
        rw (add-one w) record {
          ordered = p.ordered;
          reached = rw (kept_rows, kept_block) (reached_again parting-≟ layout_at v w g alike _ _ _ p.reached j.0 j.1);
        }

    -- Or it is written behind the rows so far, and placed.
    module _ (ws'' : List ℕ) (new : Kept) (count : ℕ) (block : part_rows (f + 1) (field_count - (f + 1)) ws' old.next count ≡ layout_at v) where
      merged-turn : Merged f (field_count - (f + 1)) old count ws' ws'' new → Progress ws'' new (suc w)
      merged-turn m =
          rw (m.words, m.kept) record {
            ordered = p.ordered;
            reached = rw (kept_rows, kept_block) (reached_merged parting-≟ layout_at v w g alike _ _ _ p.reached (sym kept_block ∙ m.same ∙ block));
          }

      begun-turn : Begun f (field_count - (f + 1)) old count v ws' ws'' new → Progress ws'' new (suc w)
      begun-turn m =
          let c : new.next - new.last ≡ count = omega (arith, m.last, m.next) in
          record {
            ordered = omega (arith, m.last, m.next);
            reached =
                rw (c, m.last, m.low, m.done, m.block, block, kept_rows, kept_block)
                (reached_begun parting-≟ layout_at v w g alike _ _ _ p.reached (λ q. m.apart (kept_block ∙ q ∙ sym block)));
          }

      pub turn : Placed f (field_count - (f + 1)) old count v ws' ws'' new → Progress ws'' new (w + 1)
      turn m = rw (add-one w) (⊎_elim merged-turn begun-turn m)

-- What an answer tells.
module _ (limit f n : ℕ) (form : List (Row Parting)) (ws : List ℕ) where
  pub laid-count : (c : ℕ) (r : Result ℕ LayoutError) → r ≡ Ok c → LaidOut limit f n form ws r → (c ≤ limit) × (part_rows f n ws 0 c ≡ form)
  laid-count c r e l = by (dec_le (length form) limit)
    where
      by : Dec (length form ≤ limit) → (c ≤ limit) × (part_rows f n ws 0 c ≡ form)
      by (yes h) =
          let a : r ≡ Ok (length form) = rw (le-leb (length form) limit h) at l.answer in
          let k : c ≡ length form = cc in
          (omega arith, rw k (l.written h))
      by (no h) =
          let a : r ≡ Err Over = rw (lt-leb (length form) limit (omega arith)) at l.answer in
          cc

-- A list of which the part from a on was lent and came back.
module _ (a : ℕ) (xs part rest : List ℕ) (h : a ≤ length xs) where
  lent-before : (j : ℕ) → j < a → get_or (take a xs ++ (part ++ rest)) j 0 ≡ get_or xs j 0
  lent-before j g = get_or-append (take a xs) (part ++ rest) 0 j (rw (length-take-le a xs h) g) ∙ get_or-take a xs j 0 g

  lent_part : (j : ℕ) → j < length part → get_or (take a xs ++ (part ++ rest)) (a + j) 0 ≡ get_or part j 0
  lent_part j g =
      let l : length (take a xs) + j ≡ a + j = rw (length-take-le a xs h) in
      sym (ap (λ (i : ℕ). get_or (take a xs ++ (part ++ rest)) i 0) l) ∙ get_or-append-add (take a xs) (part ++ rest) j 0 ∙ get_or-append part rest 0 j g

-- One turn, the layout behind the values having been written into the part of the room behind the rows so far.
pub turn_lent : (first second : List ℕ) (task : Task) (before : List ℕ) (f : ℕ) → f < field_count → (v w : ℕ) → v ≤ w
    → SearchAlike task.direction first before v w × SearchAlike task.direction second before v w
    → (ws part rest ws'' : List ℕ) (old new : Kept) (limit count : ℕ) → Progress first second task before f ws old v → old.next * row_words ≤ length ws
    → limit * row_words ≤ length part → (r : Result ℕ LayoutError) → r ≡ Ok count → LaidOut limit (f + 1) (field_count - (f + 1)) (layout_at first second task before f v) part r
    → Placed f (field_count - (f + 1)) old count v (take (old.next * row_words) ws ++ (part ++ rest)) ws'' new → Progress first second task before f ws'' new (w + 1)
turn_lent first second task before f h v w g ab ws part rest ws'' old new limit count p room enough r q l =
    let c = laid-count limit (f + 1) (field_count - (f + 1)) _ part count r q l in
    turn first second task before f h v w g ab.0 ab.1 ws _ old p (lent-before (old.next * row_words) ws part rest room) ws'' new count
    (rows_moved part (take (old.next * row_words) ws ++ (part ++ rest)) (f + 1) (field_count - (f + 1)) (omega arith) 0 old.next count
    (λ k q. lent_part (old.next * row_words) ws part rest room k (omega (arith, c.0)) ∙ ap (λ (j : ℕ). get_or part j 0) (omega arith))
    ∙ c.1)

-- The same, where the layout may be known to be that of the value before.
pub turn_stretch : (first second : List ℕ) (task : Task) (before : List ℕ) (f : ℕ) → f < field_count → (v w : ℕ) → v ≤ w
    → SearchAlike task.direction first before v w × SearchAlike task.direction second before v w
    → (ws part rest ws'' : List ℕ) (old new : Kept) (limit : ℕ) → Progress first second task before f ws old v → old.next * row_words ≤ length ws
    → limit * row_words ≤ length part → (r : Option ℕ) → (q : Result (Option ℕ) LayoutError) → q ≡ Ok r
    → StretchOut limit (f + 1) (field_count - (f + 1)) v (layout_at first second task before f) part q
    → PlacedStretch f (field_count - (f + 1)) old r v (take (old.next * row_words) ws ++ (part ++ rest)) ws'' new → Progress first second task before f ws'' new (w + 1)
turn_stretch first second task before f h v w g ab ws part rest ws'' old new limit p room enough (Some c) q e s m =
    turn_lent first second task before f h v w g ab ws part rest ws'' old new limit c p room enough (Ok c) refl (s.rows c e) (m.placed c refl)
turn_stretch first second task before f h v w g ab ws part rest ws'' old new limit p room enough None q e s m =
    rw ((m.again refl).0, (m.again refl).1)
    (again-turn first second task before f h v w g ab.0 ab.1 ws _ old p (lent-before (old.next * row_words) ws part rest room) (s.again e))

-- The layout behind a value is that of the point with the value.
module _ (first second : List ℕ) (task : Task) (ps hs : List ℕ) (f : ℕ) (v : Value) (p : length ps ≡ field_count * value_words) (h : f < field_count)
    (e : hs ≡ written ps (value_words * f) (number v)) where
  pub value-form : form_at first second task (values_from hs 0 (f + 1)) (f + 1) (field_count - (f + 1)) ≡ layout_at first second task (values_from ps 0 f) f (number v)
  value-form =
      ap (λ (us : List ℕ). form_at first second task us (f + 1) (field_count - (f + 1)))
      (ap (λ (xs : List ℕ). values_from xs 0 (f + 1)) e ∙ values_with ps f (number v) (omega arith))

  module _ (limit : ℕ) (ws : List ℕ) (r : Result ℕ LayoutError) where
    pub laid-field : LaidOut limit (f + 1) (field_count - (f + 1)) (form_at first second task (values_from hs 0 (f + 1)) (f + 1) (field_count - (f + 1))) ws r
        → LaidOut limit (f + 1) (field_count - (f + 1)) (layout_at first second task (values_from ps 0 f) f (number v)) ws r
    laid-field l = rw value-form at l

    pub laid_last : f + 1 ≡ field_count → LaidOut limit field_count 0 (form_at first second task (values_from hs 0 field_count) field_count 0) ws r
        → LaidOut limit (f + 1) (field_count - (f + 1)) (layout_at first second task (values_from ps 0 f) f (number v)) ws r
    laid_last k l = laid-field (at f (omega arith))
      where
        at : (g : ℕ) → g ≡ 4 → LaidOut limit (g + 1) (field_count - (g + 1)) (form_at first second task (values_from hs 0 (g + 1)) (g + 1) (field_count - (g + 1))) ws r
        at g q = rw q l

-- The rows within the limit end at a word of the room, and the part behind it has room for the layout behind.
pub record Room (limit f a : ℕ) (xs : List ℕ) : Type 0 where
  pub start : a + limit * row_words ≤ length xs
  pub behind : words_for limit (field_count - (f + 1)) ≤ length (take (length xs - a) (drop a xs))
  pub enough : limit * row_words ≤ length (take (length xs - a) (drop a xs))

pub room_for : (limit f next n : ℕ) (xs : List ℕ) → f < field_count → next ≤ limit → words_for limit (field_count - f) ≤ n → length xs ≡ n → Room limit f (next * row_words) xs
room_for limit f next n xs h g enough e =
    let w = words-next limit f h in
    let l : length (take (length xs - next * row_words) (drop (next * row_words) xs)) ≡ length xs - next * row_words =
    length-take-le (length xs - next * row_words) (drop (next * row_words) xs) (rw (length-drop (next * row_words) xs) (omega arith)) in
    record { start = omega arith; behind = omega arith; enough = omega arith }

-- The same by what the loop has: its room, the end of the interval, and what came of the stretch.
pub turned : {first second before ws part ws'' : List ℕ} {task : Task} {f v w top limit : ℕ} {old new : Kept} {laid : Option ℕ} {q : Result (Option ℕ) LayoutError}
    → f < field_count → IntervalEnd v top w (SearchAlike task.direction first before v w × SearchAlike task.direction second before v w)
    → Progress first second task before f ws old v → Room limit f (old.next * row_words) ws
    → length part ≡ length (take (length ws - old.next * row_words) (drop (old.next * row_words) ws)) → q ≡ Ok laid
    → StretchOut limit (f + 1) (field_count - (f + 1)) v (layout_at first second task before f) part q
    → PlacedStretch f (field_count - (f + 1)) old laid v (put_mid (old.next * row_words) (length ws - old.next * row_words) ws part) ws'' new
    → Progress first second task before f ws'' new (w + 1)
turned {first} {second} {before} {ws} {part} {ws''} {task} {f} {v} {w} {top} {limit} {old} {new} {laid} {q} h e p r k is s m =
    turn_stretch first second task before f h v w e.reaches e.alike ws part _ ws'' old new limit p (omega (arith, r.start)) (rw k r.enough) laid q is s m

-- An answer that is no count: there are more rows than the limit. The tag of an answer is its place among the answers.
pub laid_else : (limit f n : ℕ) (form : List (Row Parting)) (ws : List ℕ) (tag : Result ℕ LayoutError → ℕ) → ((m : ℕ) → tag (Ok m) ≡ 0) → (r : Result ℕ LayoutError)
    → LaidOut limit f n form ws r → (tag r ≡ 1) ⊎ (tag r ≡ 2) → limit < length form
laid_else limit f n form ws tag z r l o = by (dec_le (length form) limit)
  where
    by : Dec (length form ≤ limit) → limit < length form
    by (yes h) =
        let e : r ≡ Ok (length form) = rw (le-leb (length form) limit h) at l.answer in
        let t : tag r ≡ 0 = ap tag e ∙ z (length form) in
        absurd (⊎_elim (λ p. omega arith) (λ p. omega arith) o)
    by (no h) = omega arith

-- One more than a value below another one is no more than the largest.
pub one_more : (M n e t : ℕ) → n ≡ min (e + 1) (M - 1) → e < t → t < M → n ≡ e + 1
one_more M n e t q h g = q ∙ min-eq_left (omega arith)
