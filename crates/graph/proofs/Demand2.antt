-- Demand 2 of a single command, in the words of specs/Demand2.antt. A command that is accepted passed its tests (`Taken`) and leaves
-- what its definition says (`leaves`); the laws of these two give each theorem. Where each refusal is given, on any tables, is said in
-- Reasons.
use Prim.Native.Nat.{ℕ, ◌<◌}
use mathlib.Core.Path.{◌≡◌, refl, sym, ◌∙◌, ap, subst}
use mathlib.Core.Logic.{◌⊎◌, inl, inr, ◌↔◌}
use mathlib.Core.Bool.{Bool, true, false}
use mathlib.Core.List.{List}
use Rattle.graph.specs.declared.Command.{Command}
use Rattle.graph.specs.declared.Command.TheVariants.{NewEdge}
use Rattle.graph.specs.Tests.{both}
use Rattle.graph.specs.Tables.{Lent, NEW, RELEASED, EXECUTING}
use Rattle.graph.specs.Answers.{CommandSaid, accepted}
use Rattle.graph.specs.Sound.{sound}
use Rattle.graph.specs.Paths.{CycleFree, reaches}
use Rattle.graph.specs.Rules.{Graph, TRANSFER, Printed, Unguarded, out_of, resourced, ◌∖◌}
use Rattle.graph.specs.Commands.{command, target_reaches}
use Rattle.graph.specs.InCounts.{ReadsTrue}
use Rattle.graph.specs.Demand2.{graph, HasStatus, EdgeHeld, RowFree, VertexWordOf, EdgeWordOf, SameBut, NewRowOf, NoneTwice, Effect}
use Rattle.graph.proofs.SoundLaws.{sound_fits, fits_sound}
use Rattle.graph.proofs.TakenLaws.{leaves, Taken, taken, not_refused, taken_is, is_accepted, after_is, after_refused, after_either}
use Rattle.graph.proofs.TakenLaws.{row_free_of, taken_rows}
use Rattle.graph.proofs.WordLaws.{same_all, vertex_words_of, edge_words_of, new_row_of, steps_kept_of}
use Rattle.graph.proofs.EdgeLaws.{held_decides}
use Rattle.graph.proofs.RuleLaws.{transferred_disjoint}
use Rattle.graph.proofs.EffectLaws.{rule_of, leaves_all}
use Rattle.graph.proofs.KeepLaws.{leaves_fits, leaves_once}
use Rattle.graph.proofs.CycleLaws.{target_reaches_lem}
use Rattle.graph.proofs.AcceptLaws.{leaves_acyclic, rule_taken}

taken_of : (c : Command) (s : Lent) → accepted (command c s).answer ≡ true → Taken c s
taken_of c s h = (taken c s).0 (not_refused c s h)

-- "A refusal gives its number and place, and every lent table and the tally hold what they held."
pub refused_keeps : (c : Command) (s : Lent) → accepted (command c s).answer ≡ false → (command c s).after ≡ s
refused_keeps = after_refused

-- "A command changes no other word of a row"; "single commands change the tally's first two numbers only": on any tables, whatever the word
-- that start reads holds, and refused or not.
pub words_stay :
    (c : Command) (s : Lent)
    → SameBut (VertexWordOf c s) s.vertices (command c s).after.vertices
    × SameBut (EdgeWordOf c s) s.edges (command c s).after.edges
    × ((command c s).after.steps ≡ s.steps)
words_stay c s =
    after_either
    (λ s'. SameBut (VertexWordOf c s) s.vertices s'.vertices × SameBut (EdgeWordOf c s) s.edges s'.edges × (s'.steps ≡ s.steps))
    c s
    (same_all (VertexWordOf c s) s.vertices, same_all (EdgeWordOf c s) s.edges, refl)
    (λ h. (vertex_words_of c s, edge_words_of c s (taken_rows c s ((taken c s).0 h)).1, steps_kept_of c s))

-- "Each command changes vertices, statuses and edges exactly by its published dag-calculus rule", and no other word, on any tables
-- that 12 spares, those that hold a cycle too: there the rule is without its premise "E' cycle-free". "Start reads that word" (note 6), the
-- number of edges into its vertex: of start, this and the two theorems behind it have the premise that the word is true (`ReadsTrue`), as it is
-- from an opening on (InCounts). No other command reads it.
pub effect : (c : Command) (s : Lent) → ReadsTrue c s → accepted (command c s).answer ≡ true → Effect c s (command c s).after
effect c s reads h =
    let t = taken_of c s h in
    let left = sym (after_is c s (not_refused c s h)) in
    let (vertex_words, edge_words, steps) = words_stay c s in
    record {
      rule = subst (λ (s' : Lent). Unguarded c (graph s) (graph s')) left (rule_of (λ E. Unit {0}) c s reads t tt);
      same_vertex_words = vertex_words;
      same_edge_words = edge_words;
      new_row = subst (λ (s' : Lent). NewRowOf c s s') left (new_row_of c s t);
      steps_kept = steps;
    }

-- On a graph without a cycle a command is accepted exactly where its rule, as it is printed, has a step and any row that it needs is
-- free. "Start reads that word" (note 6): of start, where the word is true.
pub acceptance :
    (c : Command) (s : Lent) → sound s ≡ true → ReadsTrue c s → CycleFree (graph s).edge
    → (accepted (command c s).answer ≡ true) ↔ (((G' : Graph) × Printed c (graph s) G') × RowFree c s)
acceptance c s known reads free = (
  λ h.
      let t = taken_of c s h in
      ((graph (leaves c s), rule_of CycleFree c s reads t (leaves_acyclic c s t free)), row_free_of c s t),
  λ h. is_accepted c s ((taken c s).1 (rule_taken c s h.0.0 known reads h.0.1 h.1)),
)

-- There the accepted command's step is the rule's; of start likewise.
pub by_the_rule :
    (c : Command) (s : Lent) → ReadsTrue c s → CycleFree (graph s).edge → accepted (command c s).answer ≡ true
    → Printed c (graph s) (graph (command c s).after)
by_the_rule c s reads free h =
    let t = taken_of c s h in
    subst (λ (s' : Lent). Printed c (graph s) (graph s')) (sym (after_is c s (not_refused c s h)))
    (rule_of CycleFree c s reads t (leaves_acyclic c s t free))

-- "An edge held already is now accepted and changes nothing, tested before 35" (note 3): on a full table, on tables with a
-- cycle, where the edge leads from a vertex to itself, and where it leads into the caller.
pub held_already :
    (s : Lent) (t t1 t2 : ℕ) → sound s ≡ true → t < s.made → HasStatus s t EXECUTING
    → (HasStatus s t2 NEW ⊎ HasStatus s t2 RELEASED) ⊎ (t2 ≡ t) → EdgeHeld s t1 t2
    → command (NewEdge t t1 t2) s ≡ record { answer = CommandSaid.edge t1 t2; after = s }
held_already s t t1 t2 known made runs waits held =
    taken_is (NewEdge t t1 t2) s ((taken (NewEdge t t1 t2) s).1 passes)
    ∙ ap (λ (s' : Lent). record { answer = CommandSaid.edge t1 t2; after = s' }) (leaves_all s t t1 t2 (inr held))
  where
    passes : Taken (NewEdge t t1 t2) s
    passes =
        let (source_made, target_made) = (sound_fits s known).ends_are_made t1 t2 ((held_decides s t1 t2).1 held) in (
          record { known = known; is_made = made; executing = runs },
          record { source_made = source_made; target_made = target_made; waits = waits; adds = inl (inr held) },
        )

-- No command closes a cycle.
pub stays_acyclic : (c : Command) (s : Lent) → CycleFree (graph s).edge → CycleFree (graph (command c s).after).edge
stays_acyclic c s free =
    after_either (λ s'. CycleFree (graph s').edge) c s free (λ h. leaves_acyclic c s ((taken c s).0 h) free)

-- No command makes an edge be held twice.
pub none_held_twice : (c : Command) (s : Lent) → NoneTwice s.edges s.held → NoneTwice (command c s).after.edges (command c s).after.held
none_held_twice c s none =
    after_either (λ s'. NoneTwice s'.edges s'.held) c s none (λ h. leaves_once c s ((taken c s).0 h) none)

-- Sound tables stay sound.
pub stays_sound : (c : Command) (s : Lent) → sound s ≡ true → sound (command c s).after ≡ true
stays_sound c s known =
    after_either (λ s'. sound s' ≡ true) c s known (λ h. fits_sound (leaves c s) (leaves_fits c s (sound_fits s known) ((taken c s).0 h)))

-- The slides' ⊎ is read as a plain union. In TRANSFER its two sets are disjoint by the other premises, so that rule is the same however it
-- is read.
pub transfer_disjoint :
    (Free : (ℕ → ℕ → Bool) → Type 0) (G : Graph) (t t' : ℕ) (G' : Graph) → TRANSFER Free G t t' G' → (a b : ℕ)
    → both ((G.edge ∖ out_of G t) a b) (resourced G t t' a b) ≡ false
transfer_disjoint Free G t t' G' r = transferred_disjoint G t t' r.no_edge_out

-- The customer's words for transfer's cycle, "some target of t is t' or reaches t'", are one search: t reaches t'.
pub transfer_test : (e : List ℕ) (n t t' : ℕ) → target_reaches e n t t' ≡ reaches e n t t'
transfer_test = target_reaches_lem
