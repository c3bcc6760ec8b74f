-- What a listing has written so far, line by line.
use Prim.Native.Nat.{ℕ, ◌+◌, ◌-◌, ◌≤◌, ◌<◌}
use mathlib.Core.Path.{◌≡◌, refl, sym, ap, subst, ◌∙◌}
use mathlib.Core.Bool.{true}
use mathlib.Core.List.{List, [], ◌∷◌, ◌++◌, append_assoc, append-nil}
use native.Mathlib.Omega.{arith}
use Rattle.std.specs.Prelude.{Option, Some, None, Ok, Err, IfSome}
use lib.ListN.{length, take}
use borrow.Rule.Slice.PartMut.{put_mid, post_of}
use Rattle.std.proofs.Math.Seq.{take-append-add}
use Rattle.std.proofs.lemmas.List.{length-take-le, take-append-le}
use Rattle.std.specs.Io.KnownBytes.{Appends, Consumes}
use Rattle.std.specs.List.{concat, FoldsTo}
use Rattle.std.specs.Fmt.{WritesText, with_newline}
use Rattle.std.specs.Fmt.InlineText.{inline_text, IsIntact, AppendsIfIntact}
use Rattle.std.specs.declared.fmt.InlineText.{InlineText}
use Rattle.graph.specs.declared.Tally.{Tally}
use Rattle.graph.specs.Tables.{Lent, lent}
use Rattle.program.specs.declared.Edition.{Edition}
use Rattle.machine.specs.Answers.{LoadingSaid, loaded, loading_refused, is_loaded}
use Rattle.machine.specs.Stepping.{step_limit}
use Rattle.machine.proofs.GhostMachine.GhostLaws.{clash}
use Rattle.listing.specs.declared.text.Heading.{Heading}
use Rattle.listing.specs.declared.text.Step.{Step}
use Rattle.refusal.specs.declared.Refusal.{Refusal}
use Rattle.listing.specs.Lines.{first_text, next_text, FirstLine, NextLine}
use Rattle.listing.proofs.LineLaws.{chosen_counts}
use Rattle.listing.specs.Text.{codes}
use Rattle.listing.specs.Listing.{StepLines, no_step, a_step, Lines, refused, listed, all_rows, Lists}

-- What is written so far, and that the lines of the steps from s on complete it.
pub record Going (ed : Edition) (bytes : List ℕ) (old new : Option (List ℕ)) (s : Lent) : Type 0 where
  written : List ℕ
  holds : Appends old new written
  completes : (rest : List ℕ) → StepLines ed bytes s rest → Lines ed bytes all_rows (written ++ rest)

-- one text more in a sink
then_appends : (old mid new : Option (List ℕ)) (a b : List ℕ) → Appends old mid a → Appends mid new b → Appends old new (a ++ b)
then_appends None mid new a b p q = tt
then_appends (Some x) None new a b p q = elim p [ ]
then_appends (Some x) (Some y) None a b p q = elim q [ ]
then_appends (Some x) (Some y) (Some z) a b p q = q ∙ ap (λ (l : List ℕ). l ++ b) p ∙ append_assoc x a b

loaded_is : (a : LoadingSaid) → is_loaded a ≡ true → a ≡ loaded
loaded_is loaded is = refl
loaded_is (loading_refused n p) is = clash cc

-- behind the heading
pub going_first :
    {ed : Edition} {bytes : List ℕ} (old new : Option (List ℕ)) (h : Heading) (tally : Tally) {vertices edges : List ℕ}
    → FirstLine ed bytes all_rows (Ok (h, tally)) (first_text (Ok (h, tally))) vertices edges
    → Appends old new (first_text (Ok (h, tally))) → Going ed bytes old new (lent vertices edges tally)
going_first {ed} {bytes} old new h tally {vertices} {edges} line wrote =
    record {
      written = first_text (Ok (h, tally));
      holds = wrote;
      completes =
          λ rest steps.
          let lines = listed (loaded_is _ line.0) line.2.1 (subst (λ (s : Lent). StepLines ed bytes s rest) line.1 steps) in
          subst (λ (text : List ℕ). Lines ed bytes all_rows (text ++ rest)) (sym line.2.2) lines;
    }

-- behind the line of a refusal there is nothing
pub lists_refusal :
    {ed : Edition} {bytes : List ℕ} (old new : Option (List ℕ)) (r : Refusal) {vertices edges : List ℕ}
    → FirstLine ed bytes all_rows (Err r) (first_text (Err r)) vertices edges
    → Appends old new (first_text (Err r)) → Lists ed bytes old new
lists_refusal {ed} {bytes} old new r line wrote =
    let (number, place, is, text) = line.0 in
    (first_text (Err r), subst (Lines ed bytes all_rows) (sym text) (refused is), wrote)

-- behind one step more
pub going_on :
    {ed : Edition} {bytes : List ℕ} {old mid : Option (List ℕ)} (new : Option (List ℕ)) {s : Lent} (line : Step) (tally : Tally) {vertices edges : List ℕ}
    → Going ed bytes old mid s → NextLine ed bytes s (Some (line, tally)) (next_text (Some (line, tally))) vertices edges
    → Appends mid new (next_text (Some (line, tally))) → Going ed bytes old new (lent vertices edges tally)
going_on {ed} {bytes} {old} {mid} new {s} line tally {vertices} {edges} going next wrote =
    record {
      written = going.written ++ next_text (Some (line, tally));
      holds = then_appends old mid new going.written (next_text (Some (line, tally))) going.holds wrote;
      completes =
          λ rest steps.
          let more = a_step next.0 next.1 (subst (λ (x : Lent). StepLines ed bytes x rest) next.2 steps) in
          let text = ap (λ (t : List ℕ). t ++ rest) (sym next.3) in
          let lines = going.completes _ (subst (StepLines ed bytes s) text more) in
          subst (Lines ed bytes all_rows) (sym (append_assoc going.written _ rest)) lines;
    }

-- and where no vertex can step, all is written
pub lists_all :
    {ed : Edition} {bytes : List ℕ} {old new : Option (List ℕ)} {s : Lent} {vertices edges : List ℕ}
    → Going ed bytes old new s → NextLine ed bytes s None (next_text None) vertices edges → Lists ed bytes old new
lists_all {ed} {bytes} {old} {new} {s} going next =
    (going.written, subst (Lines ed bytes all_rows) (append-nil going.written) (going.completes [] (no_step next.0)), going.holds)

-- each step is one of 8,192
pub fewer_left :
    (ed : Edition) (bytes : List ℕ) (s : Lent) (line : Step) (tally : Tally) {vertices edges : List ℕ}
    → NextLine ed bytes s (Some (line, tally)) (next_text (Some (line, tally))) vertices edges → step_limit - tally.steps < step_limit - s.steps
fewer_left ed bytes s line tally next =
    let counts = chosen_counts ed bytes s next.0 next.1 in
    let steps : tally.steps ≡ s.steps + 1 = ap (λ (x : Lent). x.steps) next.2 ∙ counts.1 in
    omega (arith, counts.0, steps)

-- A READ
-- the bytes that were there, and some of the part behind them
taken_mid :
    (at k n : ℕ) (buffer part : List ℕ) → at ≤ length buffer → n ≤ length part
    → take (at + n) (put_mid at k buffer part) ≡ take at buffer ++ take n part
taken_mid at k n buffer part le few =
    let long : length (take at buffer) ≡ at = length-take-le at buffer le in
    let rest = part ++ post_of at k buffer in
    let seam : take (length (take at buffer) + n) (take at buffer ++ rest) ≡ take at buffer ++ take n rest = take-append-add (take at buffer) rest n in
    let moved : take (at + n) (take at buffer ++ rest) ≡ take at buffer ++ take n rest = subst (λ (i : ℕ). take (i + n) (take at buffer ++ rest) ≡ take at buffer ++ take n rest) long seam in
    moved ∙ ap (λ (l : List ℕ). take at buffer ++ l) (take-append-le n part (post_of at k buffer) few)

-- so many bytes more stand at a buffer's start
pub filled_more :
    (old mid new : Option (List ℕ)) (at k n : ℕ) (buffer part : List ℕ) → at ≤ length buffer → n ≤ length part
    → Consumes old mid (take at buffer) → Consumes mid new (take n part) → Consumes old new (take (at + n) (put_mid at k buffer part))
filled_more None mid new at k n buffer part le few p q = tt
filled_more (Some x) None new at k n buffer part le few p q = elim p [ ]
filled_more (Some x) (Some y) None at k n buffer part le few p q = elim q [ ]
filled_more (Some x) (Some y) (Some z) at k n buffer part le few p q =
    let front : take (at + n) (put_mid at k buffer part) ≡ take at buffer ++ take n part = taken_mid at k n buffer part le few in
    p ∙ ap (λ (l : List ℕ). take at buffer ++ l) q ∙ sym (append_assoc (take at buffer) (take n part) z)
    ∙ ap (λ (l : List ℕ). l ++ z) (sym front)

-- A LINE
-- what is written into a text in parts stands there as a whole
text_of_parts :
    {n : ℕ} (s : InlineText n) (parts : List (List ℕ)) (t : InlineText n) → FoldsTo AppendsIfIntact s parts t → AppendsIfIntact s (concat parts) t
text_of_parts s [] t same intact = (subst IsIntact same intact, ap inline_text (sym same) ∙ sym (append-nil (inline_text s)))
text_of_parts s (x ∷ parts) t calls intact =
    let first = calls.1 intact in
    let rest = text_of_parts calls.0 parts t calls.2 first.0 in
    (rest.0, rest.1 ∙ ap (λ (l : List ℕ). l ++ concat parts) first.1 ∙ append_assoc (inline_text s) x (concat parts))

-- an empty text that a line and its end were written into
pub line_shown :
    {n : ℕ} (s t : InlineText n) (line : Option (List ℕ)) → inline_text s ≡ [] → IsIntact s
    → WritesText AppendsIfIntact s (with_newline line) t → IfSome line (λ bytes. inline_text t ≡ bytes ++ codes "\n")
line_shown s t None empty intact wrote = tt
line_shown s t (Some bytes) empty intact wrote =
    (text_of_parts s wrote.parts t wrote.calls intact).1 ∙ ap (λ (l : List ℕ). l ++ concat wrote.parts) empty ∙ wrote.whole

-- what a sink holds behind a write of it
pub line_written :
    (old new line : Option (List ℕ)) (text handed : List ℕ) → IfSome line (λ bytes. text ≡ bytes ++ codes "\n") → handed ≡ text
    → Appends old new handed → IfSome line (λ bytes. Appends old new (bytes ++ codes "\n"))
line_written old new None text handed is same wrote = tt
line_written old new (Some bytes) text handed is same wrote = subst (Appends old new) (same ∙ is) wrote
