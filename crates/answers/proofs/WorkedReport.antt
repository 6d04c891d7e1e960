-- A report.
use Rattle.std.specs.Prelude.{◌≡◌, refl, Ok, codes}
use Rattle.std.specs.Fmt.{digits}
use Rattle.csv.specs.Records.{field_at}
use Rattle.csv.proofs.OnLiterals.{csv_on_literals}
use Rattle.auction_terms.specs.AllFaults.{all_faults}
use Rattle.auction_terms.specs.FirstFault.{first_fault}
use Rattle.outcome.specs.Solution.{solution}
use Rattle.outcome.specs.SolutionValues.{is_near}
use Rattle.auction_terms.specs.LineFields.{fields}
use Rattle.program_rows.specs.Spelling.{column_bid}
use Rattle.auction_input.specs.Input.{input_of}
use Rattle.answers.specs.Answer.{answer}
use Rattle.auction_input.specs.declared.request.Request.TheVariants.{Report}

cost_of_beta : answer (Report 1)
    (input_of
    (codes
    "%rules\nrules,1,1,,\ncategory,A,2,10,1\ncategory,B,1,5,1\nbidder,Alpha,9,2,\nbidder,Beta,9,1,\nbidder,Gamma,9,1,\n%form\nAlpha,A,B\n30,1,0\n50,2,1\n28,1,1\n%form\nBeta,A,B\n20,1,0\n45,3,0\n%form\nGamma,A,B\n12,0,1\n%groups\n-\nBeta\n%solution\nX1_1 0.999999\nX2_1 1\nX3_1 1\n%solution\nX1_2 1\n")) ≡ Ok (codes "group 1 -\nAlpha 1 30\nBeta 1 20\nGamma 1 12\ntotal 62\ncost 0\ngroup 2 Beta\nAlpha 2 50\ntotal 50\ncost 8\n")
unfolding all_faults csv_on_literals field_at first_fault digits solution is_near fields column_bid
cost_of_beta = refl
