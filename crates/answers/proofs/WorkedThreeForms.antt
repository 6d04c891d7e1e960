-- The text of three forms.
use Rattle.std.specs.Prelude.{◌≡◌, refl, Ok, codes}
use Rattle.std.specs.Fmt.{digits}
use Rattle.csv.specs.Records.{field_at}
use Rattle.csv.proofs.OnLiterals.{csv_on_literals}
use Rattle.auction_terms.specs.AllFaults.{all_faults}
use Rattle.auction_terms.specs.FirstFault.{first_fault}
use Rattle.mps_text.specs.Text.{text}
use Rattle.auction_input.specs.Input.{input_of}
use Rattle.answers.specs.Answer.{answer}
use Rattle.auction_input.specs.declared.request.Request.TheVariants.{Text}

three_forms : answer Text
    (input_of
    (codes
    "%rules\nrules,1,1,,\ncategory,A,2,10,1\ncategory,B,1,5,1\nbidder,Alpha,9,2,\nbidder,Beta,9,1,\nbidder,Gamma,9,1,\n%form\nAlpha,A,B\n30,1,0\n50,2,1\n28,1,1\n%form\nBeta,A,B\n20,1,0\n45,3,0\n%form\nGamma,A,B\n12,0,1\n")) ≡ Ok (codes "NAME wdp\nROWS\n N OBJ\n L B1\n L B2\n L B3\n L C1\n L C2\nCOLUMNS\n M1 'MARKER' 'INTORG'\n X1_1 OBJ -30\n X1_1 B1 1\n X1_1 C1 1\n X1_2 OBJ -50\n X1_2 B1 1\n X1_2 C1 2\n X1_2 C2 1\n X2_1 OBJ -20\n X2_1 B2 1\n X2_1 C1 1\n X3_1 OBJ -12\n X3_1 B3 1\n X3_1 C2 1\n M2 'MARKER' 'INTEND'\nRHS\n RHS B1 1\n RHS B2 1\n RHS B3 1\n RHS C1 2\n RHS C2 1\nBOUNDS\n UP BND X1_1 1\n UP BND X1_2 1\n UP BND X2_1 1\n UP BND X3_1 1\nENDATA\n")
unfolding all_faults csv_on_literals field_at first_fault digits text
three_forms = refl
