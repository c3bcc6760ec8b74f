-- The theorems, as they are proved.
use Rattle.program.proofs.Formulas as Formulas
use Rattle.program.proofs.laws.formulas_are_the_encodings.Goals as goal

pub returns-clause-vertices : goal.returns-clause-vertices
returns-clause-vertices c = Formulas.vertices_formula

pub returns-clause-edge_rows : goal.returns-clause-edge_rows
returns-clause-edge_rows c = Formulas.edge_rows_formula

pub returns-clause-steps : goal.returns-clause-steps
returns-clause-steps c = Formulas.steps_formula
