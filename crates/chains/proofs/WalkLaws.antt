-- The walk from vertex to vertex, as it is written.
use Prim.Native.Nat.{ℕ, suc, ◌+◌, ◌-◌, ◌<◌, ◌≤◌}
use mathlib.Core.Path.{◌≡◌, refl, sym, ◌∙◌, ap, subst}
use mathlib.Core.List.{List, [], ◌∷◌, ◌++◌, append_assoc}
use native.Mathlib.Numerals.{add-one}
use native.Mathlib.Omega.{arith}
use lib.ListN.{length, get_or, take, drop, set, length-set}
use lib.Seq.{take-suc-set, drop-set-lt, drop-drop, set_split}
use Rattle.graph.specs.Internal.Search.{search_limit}
use Rattle.chains.specs.Internal.Walk.{walk, Walkable}

-- Of `links` steps from `from` on k are written, into a list that was `list₀`, and `vertex` is the next.
pub record Along (near : List ℕ) (links from : ℕ) (list₀ : List ℕ) (k vertex : ℕ) (list : List ℕ) : Type 0 where
  pub front : take k list ++ walk near (links - k) vertex ≡ walk near links from
  pub rest : drop k list ≡ drop k list₀
  pub long : length list ≡ length list₀
  pub way : Walkable near (links - k) vertex

pub along_start : (near : List ℕ) (links from : ℕ) (list : List ℕ) → Walkable near links from → Along near links from list 0 from list
along_start near links from list way =
    let all : links - 0 ≡ links = omega arith in
    record { front = rw all refl; rest = refl; long = refl; way = rw all way }

-- one vertex more to go
walk_more : (near : List ℕ) (links k v : ℕ) → k < links → walk near (links - k) v ≡ v ∷ walk near (links - suc k) (get_or near v 0)
unfolding walk
walk_more near links k v lt =
    let more : links - k ≡ suc (links - suc k) = omega arith in
    rw more refl

way_more : (near : List ℕ) (links k v : ℕ) → k < links → Walkable near (links - k) v → (v < search_limit) × Walkable near (links - suc k) (get_or near v 0)
unfolding Walkable
way_more near links k v lt way =
    let more : links - k ≡ suc (links - suc k) = omega arith in
    subst (λ (n : ℕ). Walkable near n v) more way

module _ {near : List ℕ} {links from : ℕ} {list₀ : List ℕ} {k v : ℕ} {list : List ℕ} (h : Along near links from list₀ k v list) where
  pub along_usable : k < links → v < search_limit
  along_usable lt = (way_more near links k v lt h.way).0

  pub along_more : k < links → links < length list₀ → Along near links from list₀ (k + 1) (get_or near v 0) (set list k v)
  along_more lt room =
      rw (add-one k)
      (record {
        front =
            ap (λ (l : List ℕ). l ++ walk near (links - suc k) (get_or near v 0)) (take-suc-set list k v (omega (arith, h.long)))
            ∙ append_assoc (take k list) (v ∷ []) (walk near (links - suc k) (get_or near v 0))
            ∙ ap (λ (l : List ℕ). take k list ++ l) (sym (walk_more near links k v lt))
            ∙ h.front;
        rest = drop-set-lt (suc k) list k v (omega arith) ∙ one_more;
        long = simp length-set h.long;
        way = (way_more near links k v lt h.way).1;
      })
    where
      one_more : drop (suc k) list ≡ drop (suc k) list₀
      one_more =
          let n : suc k ≡ k + 1 = omega arith in
          rw n (sym (drop-drop 1 k list) ∙ ap (drop 1) h.rest ∙ drop-drop 1 k list₀)

-- and the last
walk_ends : (near : List ℕ) (n v : ℕ) → n ≡ 0 → walk near n v ≡ v ∷ []
unfolding walk
walk_ends near n v h = rw h refl

pub along_end :
    {near : List ℕ} {links from : ℕ} {list₀ : List ℕ} {k v : ℕ} {list : List ℕ} → Along near links from list₀ k v list → k ≤ links → links ≤ k
    → links < length list₀ → set list links v ≡ walk near links from ++ drop (links + 1) list₀
along_end {near} {links} {from} {list₀} {k} {v} {list} h le ge room =
    let at : k ≡ links = omega arith in
    let front : take links list ++ (v ∷ []) ≡ walk near links from =
    ap (λ (l : List ℕ). take links list ++ l) (sym (walk_ends near (links - k) v (omega arith)))
    ∙ subst (λ (j : ℕ). take j list ++ walk near (links - k) v ≡ walk near links from) at h.front
    in
    let rest : drop links list ≡ drop links list₀ = subst (λ (j : ℕ). drop j list ≡ drop j list₀) at h.rest in
    let n : suc links ≡ links + 1 = omega arith in
    set_split list links v (omega (arith, h.long))
    ∙ sym (append_assoc (take links list) (v ∷ []) (drop (suc links) list))
    ∙ ap (λ (l : List ℕ). l ++ drop (suc links) list) front
    ∙ ap (λ (j : ℕ). walk near links from ++ drop j list) n
    ∙ ap (λ (l : List ℕ). walk near links from ++ l) (sym (drop-drop 1 links list) ∙ ap (drop 1) rest ∙ drop-drop 1 links list₀)
