-- The rows with one end, linked: what the last of them is, that going on from a row to the one before it leaves none out, and what a row more or
-- a new source does to the links.
use Prim.Native.Nat.{ℕ, zero, suc, ◌+◌, ◌*◌, ◌≤◌, ◌<◌}
use mathlib.Core.Path.{◌≡◌, refl, sym, ◌∙◌, ap, subst}
use mathlib.Core.Bool.{Bool, cond}
use mathlib.Core.Logic.{⊎_elim, ◌↔◌}
use mathlib.Core.List.{List}
use native.Mathlib.Numerals.{add-one}
use native.Mathlib.Omega.{arith}
use lib.ListN.{length, get_or, set, replicate, length-set, length-replicate, get_or-replicate}
use lib.Seq.{get_or-set_same, get_or-set_other}
use borrow.Author.Tests.{eq-eqb, ne_eqb}
use Rattle.graph.specs.Tables.{usable_limit, edge_words, source_word, target_word, edge_word, source, target, set_edge_word}
use Rattle.graph.specs.Commands.{appended}
use Rattle.graph.proofs.TestLaws.{equal?, below_suc}
use Rattle.graph.proofs.TableLaws.{appended_out, appended_other}
use Rattle.index.specs.Layout.{row_limit, nowhere, last_in_base, before_in_base, last_out_base, before_out_base, last_in, last_out, before_in, before_out}
use Rattle.graph.specs.Internal.Search.{last_with}
use Rattle.index.specs.Layout.{index_words, Indexed, SameRows}

module _ (w : ℕ) (e : List ℕ) (v : ℕ) where
  last_none : last_with w e v 0 ≡ 0
  unfolding last_with
  last_none = refl

  last_here : (n : ℕ) → edge_word e n w ≡ v → last_with w e v (suc n) ≡ suc n
  unfolding last_with
  last_here n h = ap (λ (b : Bool). cond b (suc n) (last_with w e v n)) (eq-eqb _ _ h)

  last_other : (n : ℕ) → (edge_word e n w ≡ v → ⊥) → last_with w e v (suc n) ≡ last_with w e v n
  unfolding last_with
  last_other n h = ap (λ (b : Bool). cond b (suc n) (last_with w e v n)) (ne_eqb _ _ h)

  pub last_below : (n : ℕ) → last_with w e v n ≤ n
  last_below zero = omega (arith, last_none)
  last_below (suc n) =
      ⊎_elim (λ q. omega (arith, last_here n q)) (λ q. omega (arith, last_other n q, last_below n)) (equal? (edge_word e n w) v)

  -- it is a row with that end
  pub last_row : (n i : ℕ) → last_with w e v n ≡ suc i → edge_word e i w ≡ v
  last_row zero i h = absurd (let z : ◌≡◌ {A = ℕ} 0 (suc i) = sym last_none ∙ h in omega arith)
  last_row (suc n) i h =
      ⊎_elim
      (λ q.
      let r : suc n ≡ suc i = sym (last_here n q) ∙ h in
      let s : n ≡ i = omega arith in
      subst (λ (k : ℕ). edge_word e k w ≡ v) s q)
      (λ q. last_row n i (sym (last_other n q) ∙ h))
      (equal? (edge_word e n w) v)

  -- and none below n comes after it
  pub below_last : (n i : ℕ) → i < n → edge_word e i w ≡ v → i < last_with w e v n
  below_last zero i lt h = absurd (omega arith)
  below_last (suc n) i lt h =
      ⊎_elim
      (λ q. omega (arith, last_here n q))
      (λ q.
      let r =
      ⊎_elim {C = i < last_with w e v n} (λ s. absurd (q (subst (λ (k : ℕ). edge_word e k w ≡ v) s h))) (λ l. below_last n i l h) (below_suc lt) in
      omega (arith, last_other n q))
      (equal? (edge_word e n w) v)

  -- what no other row changes is the same up to the last row
  pub last_skip : {A : Type 0} (f : ℕ → A) → ((n : ℕ) → (edge_word e n w ≡ v → ⊥) → f (suc n) ≡ f n) → (n : ℕ) → f n ≡ f (last_with w e v n)
  last_skip f h zero = ap f (sym last_none)
  last_skip f h (suc n) =
      ⊎_elim (λ q. ap f (sym (last_here n q))) (λ q. h n q ∙ last_skip f h n ∙ ap f (sym (last_other n q))) (equal? (edge_word e n w) v)

-- where the same rows have an end in each of two tables, the last is the same
pub last_alike :
    (w : ℕ) (e e' : List ℕ) (u v n : ℕ) → ((i : ℕ) → i < n → (edge_word e i w ≡ u) ↔ (edge_word e' i w ≡ v)) → last_with w e u n ≡ last_with w e' v n
last_alike w e e' u v zero h = last_none w e u ∙ sym (last_none w e' v)
last_alike w e e' u v (suc n) h =
    let before = last_alike w e e' u v n (λ i lt. h i (omega arith)) in
    let here = h n (omega arith) in
    ⊎_elim
    (λ q. last_here w e u n q ∙ sym (last_here w e' v n (here.0 q)))
    (λ q. last_other w e u n q ∙ before ∙ sym (last_other w e' v n (λ r. q (here.1 r))))
    (equal? (edge_word e n w) u)

-- where the words are the same, too
pub last_same : (w : ℕ) (e e' : List ℕ) (v n : ℕ) → ((i : ℕ) → i < n → edge_word e' i w ≡ edge_word e i w) → last_with w e' v n ≡ last_with w e v n
last_same w e e' v n h = last_alike w e' e v v n (λ i lt. (λ q. sym (h i lt) ∙ q, λ q. h i lt ∙ q))

-- where no row has the end, there is none
pub last_nowhere : (w : ℕ) (e : List ℕ) (v n : ℕ) → ((i : ℕ) → i < n → edge_word e i w ≡ v → ⊥) → last_with w e v n ≡ 0
last_nowhere w e v zero f = last_none w e v
last_nowhere w e v (suc n) f = last_other w e v n (f n (omega arith)) ∙ last_nowhere w e v n (λ i lt. f i (omega arith))

-- NO ROW YET
pub none_indexed : {x : List ℕ} → x ≡ replicate index_words 0 → Indexed x 0
none_indexed {x} q =
    record {
      long = ap length q ∙ length-replicate {A = ℕ} index_words 0;
      few = omega arith;
      sources = λ i lt. absurd (omega arith);
      targets = λ i lt. absurd (omega arith);
      ins = λ v lv. blank (last_in_base + v) (omega arith) ∙ sym (last_none target_word x v);
      outs = λ v lv. blank (last_out_base + v) (omega arith) ∙ sym (last_none source_word x v);
      in_links = λ i lt. absurd (omega arith);
      out_links = λ i lt. absurd (omega arith);
    }
  where
    blank : (j : ℕ) → j < index_words → get_or x j 0 ≡ 0
    blank j lt = ap (λ (l : List ℕ). get_or l j 0) q ∙ get_or-replicate {A = ℕ} index_words j 0 0 lt

-- A ROW MORE: the table's own words
appended_ends :
    (x : List ℕ) (n a b : ℕ) → edge_words * n + edge_words ≤ length x → (source (appended x n a b) n ≡ a) × (target (appended x n a b) n ≡ b)
unfolding appended
appended_ends x n a b room = (
  get_or-set_other (set_edge_word x n source_word a) (edge_words * n + target_word) (edge_words * n + source_word) b 0 (omega arith)
      ∙ get_or-set_same x (edge_words * n + source_word) a 0 (omega arith),
  get_or-set_same (set_edge_word x n source_word a) (edge_words * n + target_word) b 0 (simp length-set (omega arith)),
)

-- row n is taken from e, as those before it
pub same_rows_more :
    (x y e : List ℕ) (n : ℕ) → Indexed x n → n < row_limit → SameRows n x e → SameRows (n + 1) y (appended x n (source e n) (target e n))
    → SameRows (n + 1) y e
same_rows_more x y e n h room before more i lt =
    ⊎_elim
    (λ q. subst (λ (k : ℕ). (source y k ≡ source e k) × (target y k ≡ target e k)) (sym q) here)
    (λ l. (
      (more i lt).0 ∙ appended_other x n (source e n) (target e n) i source_word (omega arith) l ∙ (before i l).0,
      (more i lt).1 ∙ appended_other x n (source e n) (target e n) i target_word (omega arith) l ∙ (before i l).1,
    ))
    (below_suc (rw (add-one n) at lt))
  where
    here : (source y n ≡ source e n) × (target y n ≡ target e n)
    here =
        let (s, t) = appended_ends x n (source e n) (target e n) (omega (arith, h.long)) in
        ((more n (omega arith)).0 ∙ s, (more n (omega arith)).1 ∙ t)

-- and its links: row n leads from a to b, and is put in front of the rows out of a and of those into b
abbrev row_put : List ℕ → ℕ → ℕ → ℕ → List ℕ
row_put x n a b = set_edge_word (set_edge_word x n source_word a) n target_word b

abbrev in_put : List ℕ → ℕ → ℕ → ℕ → List ℕ
in_put x n a b = set (set (row_put x n a b) (before_in_base + n) (last_in x b)) (last_in_base + b) (n + 1)

abbrev put : List ℕ → ℕ → ℕ → ℕ → List ℕ
put x n a b = set (set (in_put x n a b) (before_out_base + n) (last_out x a)) (last_out_base + a) (n + 1)

module _ (x : List ℕ) (n a b : ℕ) (h : Indexed x n) (room : n < row_limit) (la : a < usable_limit) (lb : b < usable_limit) where
  long_put : length (put x n a b) ≡ length x
  long_put = simp length-set

  -- no word before the links but those of the row
  put_row : (j : ℕ) → j < last_in_base → get_or (put x n a b) j 0 ≡ get_or (row_put x n a b) j 0
  put_row j lt =
      get_or-set_other (set (in_put x n a b) (before_out_base + n) (last_out x a)) (last_out_base + a) j (n + 1) 0 (omega arith)
      ∙ get_or-set_other (in_put x n a b) (before_out_base + n) j (last_out x a) 0 (omega arith)
      ∙ get_or-set_other (set (row_put x n a b) (before_in_base + n) (last_in x b)) (last_in_base + b) j (n + 1) 0 (omega arith)
      ∙ get_or-set_other (row_put x n a b) (before_in_base + n) j (last_in x b) 0 (omega arith)

  pub put_same_rows : SameRows (n + 1) (put x n a b) (appended x n a b)
  unfolding appended
  put_same_rows i lt = (put_row (edge_words * i + source_word) (omega arith), put_row (edge_words * i + target_word) (omega arith))

  put_other : (w i : ℕ) → w < edge_words → i < n → edge_word (put x n a b) i w ≡ edge_word x i w
  unfolding appended
  put_other w i lw lt = put_row (edge_words * i + w) (omega arith) ∙ appended_other x n a b i w lw lt

  put-source : source (put x n a b) n ≡ a
  unfolding appended
  put-source = put_row (edge_words * n + source_word) (omega arith) ∙ (appended_ends x n a b (omega (arith, h.long))).0

  put-target : target (put x n a b) n ≡ b
  unfolding appended
  put-target = put_row (edge_words * n + target_word) (omega arith) ∙ (appended_ends x n a b (omega (arith, h.long))).1

  -- the words of the rows in, behind which those of the rows out are
  put_in : (j : ℕ) → j < last_out_base → get_or (put x n a b) j 0 ≡ get_or (in_put x n a b) j 0
  put_in j lt =
      get_or-set_other (set (in_put x n a b) (before_out_base + n) (last_out x a)) (last_out_base + a) j (n + 1) 0 (omega arith)
      ∙ get_or-set_other (in_put x n a b) (before_out_base + n) j (last_out x a) 0 (omega arith)

  row_rest : (j : ℕ) → last_in_base ≤ j → get_or (row_put x n a b) j 0 ≡ get_or x j 0
  unfolding appended
  row_rest j le = appended_out x n a b j (λ q. omega arith)

  in_rest : (j : ℕ) → last_out_base ≤ j → get_or (in_put x n a b) j 0 ≡ get_or x j 0
  in_rest j le =
      get_or-set_other (set (row_put x n a b) (before_in_base + n) (last_in x b)) (last_in_base + b) j (n + 1) 0 (omega arith)
      ∙ get_or-set_other (row_put x n a b) (before_in_base + n) j (last_in x b) 0 (omega arith)
      ∙ row_rest j (omega arith)

  last_in_same : last_in (put x n a b) b ≡ n + 1
  last_in_same =
      put_in (last_in_base + b) (omega arith)
      ∙ get_or-set_same (set (row_put x n a b) (before_in_base + n) (last_in x b)) (last_in_base + b) (n + 1) 0 (simp length-set (omega (arith, h.long)))

  last_in_other : (v : ℕ) → v ≤ nowhere → (v ≡ b → ⊥) → last_in (put x n a b) v ≡ last_in x v
  last_in_other v lv ne =
      put_in (last_in_base + v) (omega arith)
      ∙ get_or-set_other (set (row_put x n a b) (before_in_base + n) (last_in x b)) (last_in_base + b) (last_in_base + v) (n + 1) 0 (λ q. ne (omega arith))
      ∙ get_or-set_other (row_put x n a b) (before_in_base + n) (last_in_base + v) (last_in x b) 0 (omega arith)
      ∙ row_rest (last_in_base + v) (omega arith)

  before_in_same : before_in (put x n a b) n ≡ last_in x b
  before_in_same =
      put_in (before_in_base + n) (omega arith)
      ∙ get_or-set_other (set (row_put x n a b) (before_in_base + n) (last_in x b)) (last_in_base + b) (before_in_base + n) (n + 1) 0 (omega arith)
      ∙ get_or-set_same (row_put x n a b) (before_in_base + n) (last_in x b) 0 (simp length-set (omega (arith, h.long)))

  before_in_other : (i : ℕ) → i < n → before_in (put x n a b) i ≡ before_in x i
  before_in_other i lt =
      put_in (before_in_base + i) (omega arith)
      ∙ get_or-set_other (set (row_put x n a b) (before_in_base + n) (last_in x b)) (last_in_base + b) (before_in_base + i) (n + 1) 0 (omega arith)
      ∙ get_or-set_other (row_put x n a b) (before_in_base + n) (before_in_base + i) (last_in x b) 0 (omega arith)
      ∙ row_rest (before_in_base + i) (omega arith)

  last_out_same : last_out (put x n a b) a ≡ n + 1
  last_out_same =
      get_or-set_same (set (in_put x n a b) (before_out_base + n) (last_out x a)) (last_out_base + a) (n + 1) 0 (simp length-set (omega (arith, h.long)))

  last_out_other : (v : ℕ) → v < usable_limit → (v ≡ a → ⊥) → last_out (put x n a b) v ≡ last_out x v
  last_out_other v lv ne =
      get_or-set_other (set (in_put x n a b) (before_out_base + n) (last_out x a)) (last_out_base + a) (last_out_base + v) (n + 1) 0 (λ q. ne (omega arith))
      ∙ get_or-set_other (in_put x n a b) (before_out_base + n) (last_out_base + v) (last_out x a) 0 (omega arith)
      ∙ in_rest (last_out_base + v) (omega arith)

  before_out_same : before_out (put x n a b) n ≡ last_out x a
  before_out_same =
      get_or-set_other (set (in_put x n a b) (before_out_base + n) (last_out x a)) (last_out_base + a) (before_out_base + n) (n + 1) 0 (omega arith)
      ∙ get_or-set_same (in_put x n a b) (before_out_base + n) (last_out x a) 0 (simp length-set (omega (arith, h.long)))

  before_out_other : (i : ℕ) → i < n → before_out (put x n a b) i ≡ before_out x i
  before_out_other i lt =
      get_or-set_other (set (in_put x n a b) (before_out_base + n) (last_out x a)) (last_out_base + a) (before_out_base + i) (n + 1) 0 (omega arith)
      ∙ get_or-set_other (in_put x n a b) (before_out_base + n) (before_out_base + i) (last_out x a) 0 (omega arith)
      ∙ in_rest (before_out_base + i) (omega arith)

  -- the last row below n is what it was
  put_last : (w v k : ℕ) → w < edge_words → k ≤ n → last_with w (put x n a b) v k ≡ last_with w x v k
  put_last w v k lw le = last_same w x (put x n a b) v k (λ i lt. put_other w i lw (omega arith))

  put_ins : (v : ℕ) → v ≤ nowhere → last_in (put x n a b) v ≡ last_with target_word (put x n a b) v (suc n)
  put_ins v lv =
      ⊎_elim
      (λ q.
      subst (λ (k : ℕ). last_in (put x n a b) k ≡ last_with target_word (put x n a b) k (suc n)) (sym q)
      (last_in_same ∙ add-one n ∙ sym (last_here target_word (put x n a b) b n put-target)))
      (λ ne.
      last_in_other v lv ne
      ∙ h.ins v lv
      ∙ sym (last_other target_word (put x n a b) v n (λ q. ne (sym q ∙ put-target)) ∙ put_last target_word v n (omega arith) (omega arith)))
      (equal? v b)

  put_outs : (v : ℕ) → v < usable_limit → last_out (put x n a b) v ≡ last_with source_word (put x n a b) v (suc n)
  put_outs v lv =
      ⊎_elim
      (λ q.
      subst (λ (k : ℕ). last_out (put x n a b) k ≡ last_with source_word (put x n a b) k (suc n)) (sym q)
      (last_out_same ∙ add-one n ∙ sym (last_here source_word (put x n a b) a n put-source)))
      (λ ne.
      last_out_other v lv ne
      ∙ h.outs v lv
      ∙ sym (last_other source_word (put x n a b) v n (λ q. ne (sym q ∙ put-source)) ∙ put_last source_word v n (omega arith) (omega arith)))
      (equal? v a)

  put_in_links : (i : ℕ) → i < suc n → before_in (put x n a b) i ≡ last_with target_word (put x n a b) (target (put x n a b) i) i
  put_in_links i lt =
      ⊎_elim
      (λ q.
      subst (λ (k : ℕ). before_in (put x n a b) k ≡ last_with target_word (put x n a b) (target (put x n a b) k) k) (sym q)
      (before_in_same
      ∙ h.ins b (omega arith)
      ∙ sym (put_last target_word b n (omega arith) (omega arith))
      ∙ ap (λ (v : ℕ). last_with target_word (put x n a b) v n) (sym put-target)))
      (λ l.
      before_in_other i l
      ∙ h.in_links i l
      ∙ sym (put_last target_word (target x i) i (omega arith) (omega arith))
      ∙ ap (λ (v : ℕ). last_with target_word (put x n a b) v i) (sym (put_other target_word i (omega arith) l)))
      (below_suc lt)

  put_out_links :
      (i : ℕ) → i < suc n → source (put x n a b) i < usable_limit
      → before_out (put x n a b) i ≡ last_with source_word (put x n a b) (source (put x n a b) i) i
  put_out_links i lt usable =
      ⊎_elim
      (λ q.
      subst (λ (k : ℕ). before_out (put x n a b) k ≡ last_with source_word (put x n a b) (source (put x n a b) k) k) (sym q)
      (before_out_same
      ∙ h.outs a la
      ∙ sym (put_last source_word a n (omega arith) (omega arith))
      ∙ ap (λ (v : ℕ). last_with source_word (put x n a b) v n) (sym put-source)))
      (λ l.
      before_out_other i l
      ∙ h.out_links i l (omega (arith, put_other source_word i (omega arith) l))
      ∙ sym (put_last source_word (source x i) i (omega arith) (omega arith))
      ∙ ap (λ (v : ℕ). last_with source_word (put x n a b) v i) (sym (put_other source_word i (omega arith) l)))
      (below_suc lt)

  put_ends : (i : ℕ) → i < suc n → (source (put x n a b) i ≤ nowhere) × (target (put x n a b) i < usable_limit)
  put_ends i lt =
      ⊎_elim
      (λ q.
      subst (λ (k : ℕ). (source (put x n a b) k ≤ nowhere) × (target (put x n a b) k < usable_limit)) (sym q)
      (omega (arith, put-source), omega (arith, put-target)))
      (λ l. (
        omega (arith, put_other source_word i (omega arith) l, h.sources i l),
        omega (arith, put_other target_word i (omega arith) l, h.targets i l),
      ))
      (below_suc lt)

  pub put_indexed : Indexed (put x n a b) (n + 1)
  put_indexed =
      subst (λ (k : ℕ). Indexed (put x n a b) k) (sym (add-one n))
      (record {
        long = long_put ∙ h.long;
        few = omega arith;
        sources = λ i lt. (put_ends i lt).0;
        targets = λ i lt. (put_ends i lt).1;
        ins = put_ins;
        outs = put_outs;
        in_links = put_in_links;
        out_links = put_out_links;
      })
