-- From why reading stops to what the refusals say.
use Prim.Native.Nat.{ℕ, ◌-◌, ◌<◌}
use mathlib.Core.Path.{◌≡◌, refl, sym, ap, subst, ◌∙◌}
use mathlib.Core.List.{List, [], ◌∷◌, ◌++◌, append-nil, append_assoc}
use mathlib.Core.Logic.{◌⊎◌, inl, inr}
use native.Mathlib.Omega.{arith}
use lib.ListN.{length, length-append}
use Rattle.program.specs.declared.Edition.{Edition}
use Rattle.program.specs.Limits.{program_bytes}
use Rattle.program.specs.Trees.{Body, end, HasFutures}
use Rattle.program.specs.Bytes.{end_byte, force_byte, encode}
use Rattle.refusal.specs.Refusals.{length_outside, bytes_run_out, bytes_after_end, too_many_vertices}
use Rattle.program.specs.Reader.{Read, took, refused, body, refusal, whole, reading}
use Rattle.program.specs.Claims.{Fits, Encoding, encoding, CutForce, cut_force, Extends, extended, extended_force, Unfinished, unfinished}
use Rattle.program.specs.Claims.{unfinished_force, Overlong, overlong, Crowded, crowded, ByPlace, LeadsTo, too_long, not_shortest, too_large}
use Rattle.program.specs.Claims.{Offends, unknown, opener, misnumbered, no_byte, unopened, Blamed, blamed}
use Rattle.program.proofs.Soundness.{FitsAt, fits_limits}
use Rattle.program.proofs.StopLaws.{leads_passes, leads_complete, offends_refused, cut_refused, Wanting, wanting, wanting_force}
use Rattle.program.proofs.StopLaws.{offends_complete, ran_out, offended, Stop, stop, main_stop}
use Rattle.program.proofs.ReadingLaws.{Within, Comes, outside, stopped, overran, crowds, reading_within, counted_crowded, main_sound}
use Rattle.program.proofs.ReadingLaws.{main_complete, all_sound, all_complete}

-- a tree that may stand at level 1 is within the limits, and every force has its future
fits_main : (b : Body) → FitsAt 1 0 b → Fits b × HasFutures 0 b
fits_main b f = let (p, q, g) = fits_limits 1 0 b f (omega arith) in (record { numbers = p; levels = omega arith }, g)

-- no other refusal is one of these
by_place : (n : ℕ) → ByPlace n
    → (length_outside < n) × (n ≡ too_many_vertices → ⊥) × (n ≡ bytes_run_out → ⊥) × (n ≡ bytes_after_end → ⊥)
by_place n (inl e) = omega arith
by_place n (inr (inl e)) = omega arith
by_place n (inr (inr (inl e))) = omega arith
by_place n (inr (inr (inr (inl e)))) = omega arith
by_place n (inr (inr (inr (inr e)))) = omega arith

-- an offence is one
offence : (level opened n : ℕ) (first bad : List ℕ) → Offends level opened n first bad → ByPlace n
offence level opened n first bad (unknown x l) = inr (inl refl)
offence level opened n first bad (opener x p q l) = inr (inr (inl refl))
offence level opened n first bad (misnumbered x h (too_long number e t)) = inl refl
offence level opened n first bad (misnumbered x h (not_shortest b groups t)) = inl refl
offence level opened n first bad (misnumbered x h (too_large m l r)) = inr (inr (inr (inl refl)))
offence level opened n first bad (no_byte y groups x h l t ge) = inr (inl refl)
offence level opened n first bad (unopened m le small) = inr (inr (inr (inr refl)))

-- bytes that lead to a body, and those that it can begin with, can be completed
completed : (to there : ℕ) (before ys more : List ℕ) (b : Body) → LeadsTo to there 1 0 before → FitsAt to there b → encode b ≡ ys ++ more
    → (tail : List ℕ) × Encoding ((before ++ ys) ++ (more ++ tail))
completed to there before ys more b l f e =
    let (c, tail, g, q) = leads_complete to there 1 0 before b l f in
    let (fits, forced) = fits_main c g in
    let whole : encode c ≡ (before ++ ys) ++ (more ++ tail) = q ∙ rw e (simp append_assoc) in
    (tail, encoding c fits forced (sym whole))

-- where at least one byte is wanting in the body, they are unfinished
unfinished_there : (to there : ℕ) (before ys : List ℕ) → LeadsTo to there 1 0 before → Wanting to there ys → Unfinished (before ++ ys)
unfolding encode FitsAt
unfinished_there to there before ys l (wanting b x more f q) =
    let (tail, c) = completed to there before ys (x ∷ more) b l f q in
    unfinished x (more ++ tail) c
unfinished_there to there before ys l (wanting_force high short t e) =
    let (tail, c) = completed to there before [] (end_byte ∷ []) end l tt refl in
    unfinished_force
    (cut_force to there before high (end_byte ∷ tail) l (rw (append-nil before) at c) short t (ap (λ (r : List ℕ). before ++ r) e))

-- what is unfinished can be completed
extends : (xs : List ℕ) → Unfinished xs → Extends xs
extends xs (unfinished x more h) = extended (x ∷ more) h
extends xs (unfinished_force h) = extended_force h

-- bytes that end inside a force's number run out
cut_out : (bytes : List ℕ) → CutForce bytes → body 1 0 bytes ≡ refused bytes_run_out []
cut_out bytes (cut_force to there before high more l h short t e) =
    ap (body 1 0) e ∙ leads_passes to there 1 0 before (force_byte ∷ high) bytes_run_out [] l (cut_refused to there high short t)

-- what offends behind bytes that lead to it is refused, whatever stands behind it
refused_there : (to there n : ℕ) (before first bad : List ℕ) → LeadsTo to there 1 0 before → Offends to there n first bad → (zs : List ℕ)
    → body 1 0 ((before ++ first) ++ (bad ++ zs)) ≡ refused n (bad ++ zs)
refused_there to there n before first bad l o zs =
    ap (body 1 0) (append_assoc before first (bad ++ zs))
    ∙ leads_passes to there 1 0 before (first ++ (bad ++ zs)) n (bad ++ zs) l (offends_refused to there n first bad zs o)

-- bytes that are refused whatever stands behind them begin no encoding
refused_for_good : (before bad : List ℕ) (n : ℕ) → ((zs : List ℕ) → body 1 0 (before ++ (bad ++ zs)) ≡ refused n (bad ++ zs))
    → (zs : List ℕ) → Encoding (before ++ (bad ++ zs)) → ⊥
refused_for_good before bad n s zs (encoding b f forced e) =
    let h : took b [] ≡ refused n (bad ++ zs) = sym (all_complete b f forced) ∙ ap (body 1 0) (sym e) ∙ s zs in
    let z : ◌≡◌ {A = ℕ} 0 1 = cc in
    omega arith

-- a main body is refused by 2 to 5, by 7 or by 43
stop_number : (bytes : List ℕ) (n : ℕ) (left : List ℕ) → Stop 1 0 bytes n left
    → (length_outside < n) × (n ≡ too_many_vertices → ⊥) × (n ≡ bytes_after_end → ⊥)
stop_number bytes n left (stop to there before ys l e (ran_out w)) = omega arith
stop_number bytes n left (stop to there before ys l e (offended first bad rest o q k)) =
    let c = by_place n (offence to there n first bad o) in
    omega arith

-- the length of what stands before the rest
before_length : (xs before rest : List ℕ) → xs ≡ before ++ rest → length xs - length rest ≡ length before
before_length xs before rest e =
    let h : length xs ≡ length (before ++ rest) = ap length e in
    omega (arith, length-append before rest)

-- a main body that ran out
out_stop : (bytes : List ℕ) (n : ℕ) (left : List ℕ) → n ≡ bytes_run_out → Stop 1 0 bytes n left
    → Unfinished bytes × (length bytes - length left ≡ length bytes)
out_stop bytes n left h (stop to there before ys l e (ran_out w)) = (rw (sym e) at (unfinished_there to there before ys l w), omega arith)
out_stop bytes n left h (stop to there before ys l e (offended first bad rest o q k)) =
    let c = by_place n (offence to there n first bad o) in
    absurd (omega arith)

pub out_comes : (ed : Edition) (bytes : List ℕ) (n p : ℕ) → n ≡ bytes_run_out → Comes ed bytes (refusal n p)
    → Unfinished bytes × (p ≡ length bytes)
out_comes ed bytes n p h (outside o) = absurd (omega arith)
out_comes ed bytes n p h (stopped _ left w e) = out_stop bytes n left h (main_stop bytes n left e)
out_comes ed bytes n p h (overran b x left w e) = absurd (omega arith)
out_comes ed bytes n p h (crowds b w e v) = absurd (omega arith)

-- bytes that hold a whole main body are no proper prefix of an encoding
took_whole : (bytes : List ℕ) (c : Body) (rest : List ℕ) → body 1 0 bytes ≡ took c rest → (x : ℕ) (more : List ℕ)
    → Encoding (bytes ++ (x ∷ more)) → ⊥
took_whole bytes c rest e x more (encoding b g forced q) =
    let (p, f, forced') = main_sound bytes c rest e in
    let h : took b [] ≡ took c (rest ++ (x ∷ more)) =
    sym (all_complete b g forced)
    ∙ ap (body 1 0) (sym q ∙ ap (λ (l : List ℕ). l ++ (x ∷ more)) p ∙ append_assoc (encode c) rest (x ∷ more))
    ∙ main_complete c (rest ++ (x ∷ more)) f forced'
    in
    let k : [] ≡ rest ++ (x ∷ more) = cc in
    let l : 0 ≡ length (rest ++ (x ∷ more)) = ap length k in
    omega (arith, length-append rest (x ∷ more))

split : (before first bad rest more : List ℕ)
    → (before ++ (first ++ (bad ++ rest))) ++ more ≡ (before ++ first) ++ (bad ++ (rest ++ more))
split before first bad rest more = simp append_assoc

-- nor are bytes that offend
offended_whole : (bytes : List ℕ) (n : ℕ) (left : List ℕ) → Stop 1 0 bytes n left → (x : ℕ) (more : List ℕ)
    → Encoding (bytes ++ (x ∷ more)) → ◌≡◌ {A = Read Body} (refused n left) (refused bytes_run_out [])
offended_whole bytes n left (stop to there before ys l e (ran_out w)) x more h = refl
offended_whole bytes n left (stop to there before ys l e (offended first bad rest o q k)) x more h =
    absurd (refused_for_good (before ++ first) bad n (refused_there to there n before first bad l o) (rest ++ (x ∷ more))
    (subst Encoding (ap (λ (r : List ℕ). r ++ (x ∷ more)) (e ∙ ap (◌++◌ before) q) ∙ split before first bad rest (x ∷ more)) h))

-- what is unfinished runs out
pub prefix_out : (bytes : List ℕ) → Unfinished bytes → body 1 0 bytes ≡ refused bytes_run_out []
prefix_out bytes (unfinished x more h) = go (body 1 0 bytes) refl
  where
    go : (o : Read Body) → body 1 0 bytes ≡ o → o ≡ refused bytes_run_out []
    go (took c rest) e = absurd (took_whole bytes c rest e x more h)
    go (refused n left) e = offended_whole bytes n left (main_stop bytes n left e) x more h
prefix_out bytes (unfinished_force h) = cut_out bytes h

-- a main body with bytes behind it
pub after_comes : (ed : Edition) (bytes : List ℕ) (n p : ℕ) → n ≡ bytes_after_end → Comes ed bytes (refusal n p) → Overlong bytes p
after_comes ed bytes n p h (outside o) = absurd (omega arith)
after_comes ed bytes n p h (stopped _ left w e) = let c = stop_number bytes n left (main_stop bytes n left e) in absurd (omega arith)
after_comes ed bytes n p h (overran b x left w e) =
    let (q, f, forced) = main_sound bytes b (x ∷ left) e in
    overlong (encode b) x left (encoding b f forced refl) q (before_length bytes (encode b) (x ∷ left) q)
after_comes ed bytes n p h (crowds b w e v) = absurd (omega arith)

pub overlong_after : (ed : Edition) (bytes : List ℕ) (p : ℕ) → Within bytes → Overlong bytes p → reading ed bytes ≡ refusal bytes_after_end p
unfolding whole
overlong_after ed bytes p w (overlong begun x more (encoding b f forced e) q h) =
    let k : bytes ≡ encode b ++ (x ∷ more) = q ∙ ap (λ (l : List ℕ). l ++ (x ∷ more)) e in
    let t : body 1 0 bytes ≡ took b (x ∷ more) = ap (body 1 0) k ∙ main_complete b (x ∷ more) f forced in
    reading_within ed bytes w
    ∙ rw t (ap (refusal bytes_after_end) (before_length bytes begun (x ∷ more) q ∙ sym h))

none_extends : (before bad : List ℕ) (n : ℕ) → (n ≡ bytes_run_out → ⊥)
    → ((zs : List ℕ) → body 1 0 (before ++ (bad ++ zs)) ≡ refused n (bad ++ zs))
    → Extends (before ++ bad) → ⊥
none_extends before bad n other s (extended more h) = refused_for_good before bad n s more (rw (append_assoc before bad more) at h)
none_extends before bad n other s (extended_force h) =
    let e : refused n (bad ++ []) ≡ refused bytes_run_out [] =
    sym (s []) ∙ ap (λ (r : List ℕ). body 1 0 (before ++ r)) (append-nil bad) ∙ cut_out (before ++ bad) h
    in
    other cc

-- a main body that is refused for bytes that offend
blamed_stop : (bytes : List ℕ) (n : ℕ) (left : List ℕ) → ByPlace n → Stop 1 0 bytes n left → Blamed bytes n (length bytes - length left)
blamed_stop bytes n left h (stop to there before ys l e (ran_out w)) = let c = by_place n h in absurd (omega arith)
blamed_stop bytes n left h (stop to there before ys l e (offended first bad rest o q k)) =
    let whole : bytes ≡ (before ++ first) ++ (bad ++ rest) = e ∙ ap (◌++◌ before) q ∙ sym (append_assoc before first (bad ++ rest)) in
    blamed to there before first bad rest l o whole
    (ap (λ (r : List ℕ). length bytes - length r) k ∙ before_length bytes (before ++ first) (bad ++ rest) whole)
    (extends (before ++ first) (unfinished_there to there before first l (offends_complete to there n first bad o)))
    (none_extends (before ++ first) bad n (by_place n h).2 (refused_there to there n before first bad l o))

-- Bytes that are blamed are refused so.
pub blamed_reads : (ed : Edition) (bytes : List ℕ) (n p : ℕ) → Within bytes → Blamed bytes n p → reading ed bytes ≡ refusal n p
unfolding whole
blamed_reads ed bytes n p w (blamed to there before first bad rest l o e q _ _) =
    let t : body 1 0 bytes ≡ refused n (bad ++ rest) = ap (body 1 0) e ∙ refused_there to there n before first bad l o rest in
    reading_within ed bytes w ∙ rw t (ap (refusal n) (before_length bytes (before ++ first) (bad ++ rest) e ∙ sym q))

pub blamed_comes : (ed : Edition) (bytes : List ℕ) (n p : ℕ) → ByPlace n → Comes ed bytes (refusal n p) → Blamed bytes n p
blamed_comes ed bytes n p h (outside o) = let c = by_place n h in absurd (omega arith)
blamed_comes ed bytes n p h (stopped _ left w e) = blamed_stop bytes n left h (main_stop bytes n left e)
blamed_comes ed bytes n p h (overran b x left w e) = let c = by_place n h in absurd (omega arith)
blamed_comes ed bytes n p h (crowds b w e v) = let c = by_place n h in absurd (omega arith)

pub outside_comes : (ed : Edition) (bytes : List ℕ) (n p : ℕ) → n ≡ length_outside → Comes ed bytes (refusal n p)
    → ((length bytes ≡ 0) ⊎ (program_bytes < length bytes)) × (p ≡ 0)
outside_comes ed bytes n p h (outside o) = (o, refl)
outside_comes ed bytes n p h (stopped _ left w e) = let c = stop_number bytes n left (main_stop bytes n left e) in absurd (omega arith)
outside_comes ed bytes n p h (overran b x left w e) = absurd (omega arith)
outside_comes ed bytes n p h (crowds b w e v) = absurd (omega arith)

pub crowded_comes : (ed : Edition) (bytes : List ℕ) (n p : ℕ) → n ≡ too_many_vertices → Comes ed bytes (refusal n p)
    → Crowded ed bytes × (p ≡ 0)
crowded_comes ed bytes n p h (outside o) = absurd (omega arith)
crowded_comes ed bytes n p h (stopped _ left w e) = let c = stop_number bytes n left (main_stop bytes n left e) in absurd (omega arith)
crowded_comes ed bytes n p h (overran b x left w e) = absurd (omega arith)
crowded_comes ed bytes n p h (crowds b w e v) = let (q, f, forced) = all_sound bytes b e in (crowded b f forced q v, refl)

pub crowded_reads : (ed : Edition) (bytes : List ℕ) → Within bytes → Crowded ed bytes → reading ed bytes ≡ refusal too_many_vertices 0
unfolding whole
crowded_reads ed bytes w (crowded b f forced e v) =
    let t : body 1 0 bytes ≡ took b [] = ap (body 1 0) e ∙ all_complete b f forced in
    reading_within ed bytes w ∙ rw t (counted_crowded ed b v)
