-- Marks: set, looked for and spread, one turn of a loop at a time, and what is told of the pairs by them.
use Prim.Native.Nat.{ℕ, zero, suc, ◌+◌, ◌<◌}
use mathlib.Core.Path.{◌≡◌, refl, sym, ◌∙◌, ap, subst}
use mathlib.Core.Bool.{true}
use mathlib.Core.Logic.{◌⊎◌, inl, inr, ⊎_elim}
use mathlib.Core.List.{List}
use native.Mathlib.Omega.{arith}
use lib.ListN.{length, get_or, set, length-set, length-replicate, replicate}
use lib.Seq.{get_or-set_same, get_or-set_other}
use lib.Bits.{bit_and, bit_or}
use Rattle.graph.specs.Tables.{source, target}
use Rattle.graph.specs.Paths.{one, holds}
use Rattle.graph.specs.Internal.Search.{search_limit}
use Rattle.graph.proofs.TestLaws.{equal?, not_so}
use Rattle.graph.proofs.PathLaws.{arrive, holds_at, held_row, reaches_path, path_reaches}
use Rattle.index.specs.Asking.{Joined}
use Rattle.reachability.specs.declared.pairs.Telling.{Telling}
use Rattle.reachability.specs.declared.pairs.Telling.TheVariants.{Nothing}
use Rattle.reachability.specs.Pairs.{Told}
use Rattle.reachability.specs.Marks.{Has, word, unmarked, Marked, Finds, Spread, Says}
use Rattle.reachability.proofs.BitLaws.{has_or, or_has_left, or_has_right, and_has, zero_has, flag, flag_has, has_flag}

-- the word of vertex e has the bits of w besides
abbrev pub gains : List ℕ → ℕ → ℕ → List ℕ
gains marks e w = set marks e (bit_or (word marks e) w)

module _ (marks : List ℕ) (e w : ℕ) (in_range : e < length marks) where
  here : word (gains marks e w) e ≡ bit_or (word marks e) w
  here = get_or-set_same marks e (bit_or (word marks e) w) 0 in_range

  there : (v : ℕ) → (v ≡ e → ⊥) → word (gains marks e w) v ≡ word marks v
  there v ne = get_or-set_other marks e v (bit_or (word marks e) w) 0 ne

  gains_new : {i : ℕ} → Has i w → Has i (word (gains marks e w) e)
  gains_new {i} h = subst (λ (x : ℕ). Has i x) (sym here) (or_has_right (word marks e) h)

  gains_keeps : {i : ℕ} (v : ℕ) → Has i (word marks v) → Has i (word (gains marks e w) v)
  gains_keeps {i} v h = pick (equal? v e)
    where
      pick : (v ≡ e) ⊎ (v ≡ e → ⊥) → Has i (word (gains marks e w) v)
      pick (inl y) =
          subst (λ (x : ℕ). Has i (word (gains marks e w) x)) (sym y)
          (subst (λ (x : ℕ). Has i x) (sym here) (or_has_left w (subst (λ (x : ℕ). Has i (word marks x)) y h)))
      pick (inr n) = subst (λ (x : ℕ). Has i x) (sym (there v n)) h

  gains_from : {i : ℕ} (v : ℕ) → Has i (word (gains marks e w) v) → Has i (word marks v) ⊎ ((v ≡ e) × Has i w)
  gains_from {i} v h = pick (equal? v e)
    where
      pick : (v ≡ e) ⊎ (v ≡ e → ⊥) → Has i (word marks v) ⊎ ((v ≡ e) × Has i w)
      pick (inl y) =
          ⊎_elim
          (λ k. inl (subst (λ (x : ℕ). Has i (word marks x)) (sym y) k))
          (λ k. inr (y, k))
          (has_or (word marks e) w (subst (λ (x : ℕ). Has i x) here (subst (λ (x : ℕ). Has i (word (gains marks e w) x)) y h)))
      pick (inr n) = inl (subst (λ (x : ℕ). Has i x) (there v n) h)

-- no word of unmarked vertices has a bit
none_set : (n v : ℕ) → get_or {A = ℕ} (replicate n 0) v 0 ≡ 0
none_set zero v = refl
none_set (suc n) zero = refl
none_set (suc n) (suc v) = none_set n v

unmarked_has : (i v : ℕ) → Has i (word unmarked v) → ⊥
unmarked_has i v h = zero_has (subst (λ (x : ℕ). Has i x) (none_set search_limit v) h)

pub marked_none : (ends marks : List ℕ) → marks ≡ unmarked → Marked ends 0 marks
marked_none ends marks e =
    record {
      long = ap length e ∙ length-replicate {A = ℕ} search_limit 0;
      at_end = λ i lt. absurd (omega arith);
      only = λ i v h. absurd (unmarked_has i v (subst (λ (l : List ℕ). Has i (word l v)) e h));
    }

pub marked_more :
    (ends marks : List ℕ) (n : ℕ) → Marked ends n marks → n < 64 → get_or ends n 0 < search_limit
    → Marked ends (n + 1) (gains marks (get_or ends n 0) (flag n))
marked_more ends marks n m lt usable =
    record {
      long = simp length-set m.long;
      at_end = λ i below. at i (equal? i n) below;
      only = λ i v h. ⊎_elim (m.only i v) (λ k. from i v k) (gains_from marks e (flag n) in_range v h);
    }
  where
    e : ℕ
    e = get_or ends n 0

    in_range : e < length marks
    in_range = omega (arith, m.long)

    at : (i : ℕ) → (i ≡ n) ⊎ (i ≡ n → ⊥) → i < n + 1 → Has i (word (gains marks e (flag n)) (get_or ends i 0))
    at i (inl y) below =
        subst (λ (x : ℕ). Has x (word (gains marks e (flag n)) (get_or ends x 0))) (sym y) (gains_new marks e (flag n) in_range (flag_has lt))
    at i (inr ne) below = gains_keeps marks e (flag n) in_range (get_or ends i 0) (m.at_end i (omega arith))

    from : (i v : ℕ) → (v ≡ e) × Has i (flag n) → get_or ends i 0 ≡ v
    from i v k = ap (λ (x : ℕ). get_or ends x 0) (has_flag lt k.1) ∙ sym k.0

pub finds_more :
    (x wanted labels : List ℕ) (n held : ℕ) → Finds x n wanted labels held
    → Finds x (n + 1) wanted labels (bit_or held (bit_and (word wanted (source x n)) (word labels (target x n))))
finds_more x wanted labels n held f k i below p q = pick (equal? k n)
  where
    pick : (k ≡ n) ⊎ (k ≡ n → ⊥) → Has i (bit_or held (bit_and (word wanted (source x n)) (word labels (target x n))))
    pick (inl y) =
        or_has_right held
        (and_has
        (subst (λ (z : ℕ). Has i (word wanted (source x z))) y p)
        (subst (λ (z : ℕ). Has i (word labels (target x z))) y q))
    pick (inr ne) = or_has_left (bit_and (word wanted (source x n)) (word labels (target x n))) (f k i (omega arith) p q)

-- a row leads on from where a path came
joined_on : (x : List ℕ) (used u k : ℕ) → k < used → Joined x used u (source x k) → Joined x used u (target x k)
joined_on x used u k lt j =
    inr
    (path_reaches x used u (target x k)
    (arrive (⊎_elim (λ e. inl e) (λ h. inr (reaches_path x used u (source x k) h)) j) (one (holds_at x used k lt))))

pub spread_none : (x labels : List ℕ) (used : ℕ) → length labels ≡ search_limit → Spread x used labels labels
spread_none x labels used long = record { long = long; from = λ i v h. (v, h, inl refl) }

pub spread_more :
    (x before labels : List ℕ) (used k : ℕ) → Spread x used before labels → k < used → target x k < search_limit
    → Spread x used before (gains labels (target x k) (word labels (source x k)))
spread_more x before labels used k s lt usable =
    record {
      long = simp length-set s.long;
      from =
          λ i v h.
          ⊎_elim (s.from i v) (λ r. on i v r) (gains_from labels (target x k) (word labels (source x k)) (omega (arith, s.long)) v h);
    }
  where
    on :
        (i v : ℕ) → (v ≡ target x k) × Has i (word labels (source x k)) → (u : ℕ) × Has i (word before u) × Joined x used u v
    on i v r =
        let (u, h, j) = s.from i (source x k) r.1 in
        (u, h, subst (λ (z : ℕ). Joined x used u z) (sym r.0) (joined_on x used u k lt j))

pub says_more :
    (goals labels : List ℕ) (told : List Telling) (held n : ℕ) (said : Telling) → n < length told
    → ((j : ℕ) → j < n → Says j held (word labels (get_or goals j 0)) (get_or told j Nothing))
    → Says n held (word labels (get_or goals n 0)) said
    → (j : ℕ) → j < n + 1 → Says j held (word labels (get_or goals j 0)) (get_or (set told n said) j Nothing)
says_more goals labels told held n said lt f s j below = pick (equal? j n)
  where
    pick : (j ≡ n) ⊎ (j ≡ n → ⊥) → Says j held (word labels (get_or goals j 0)) (get_or (set told n said) j Nothing)
    pick (inl y) =
        subst (λ (i : ℕ). Says i held (word labels (get_or goals i 0)) (get_or (set told n said) i Nothing)) (sym y)
        (subst (λ (w : Telling). Says n held (word labels (get_or goals n 0)) w) (sym (get_or-set_same told n said Nothing lt)) s)
    pick (inr ne) =
        subst (λ (w : Telling). Says j held (word labels (get_or goals j 0)) w) (sym (get_or-set_other told n j said Nothing ne)) (f j (omega arith))

-- What is told is so: a row that leads back over a pair has been found, and a label at the goal came from the start.
pub told_so :
    (x starts goals labels wanted after : List ℕ) (told : List Telling) (used held : ℕ) → length goals ≡ length starts → length told ≡ length goals
    → Marked starts (length starts) labels → Marked goals (length goals) wanted → Finds x used wanted labels held → Spread x used labels after
    → ((i : ℕ) → i < length goals → Says i held (word after (get_or goals i 0)) (get_or told i Nothing)) → Told x used starts goals told
told_so x starts goals labels wanted after told used held as_many as_told ms mg f s says =
    record {
      long = as_told ∙ as_many;
      free = λ i lt some. not_so (holds x used (get_or goals i 0) (get_or starts i 0)) (λ h. (says i (omega arith)).free some (found i lt h));
      joins = λ i lt two. came i (s.from i (get_or goals i 0) ((says i (omega arith)).reached two));
    }
  where
    found : (i : ℕ) → i < length starts → holds x used (get_or goals i 0) (get_or starts i 0) ≡ true → Has i held
    found i lt h =
        let (k, below, p, q) = held_row x used (get_or goals i 0) (get_or starts i 0) h in
        f k i below
        (subst (λ (v : ℕ). Has i (word wanted v)) (sym p) (mg.at_end i (omega arith)))
        (subst (λ (v : ℕ). Has i (word labels v)) (sym q) (ms.at_end i lt))

    came :
        (i : ℕ) → (u : ℕ) × Has i (word labels u) × Joined x used u (get_or goals i 0) → Joined x used (get_or starts i 0) (get_or goals i 0)
    came i (u, h, j) = subst (λ (z : ℕ). Joined x used z (get_or goals i 0)) (sym (ms.only i u h)) j
