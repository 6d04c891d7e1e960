-- The programs of two groups.
use Rattle.std.specs.Prelude.{◌≡◌, refl, Ok, codes}
use Rattle.std.specs.Fmt.{digits}
use Rattle.csv.specs.Records.{field_at}
use Rattle.csv.proofs.OnLiterals.{csv_on_literals}
use Rattle.auction_terms.specs.AllFaults.{all_faults}
use Rattle.auction_terms.specs.FirstFault.{first_fault}
use Rattle.mps_text.specs.Text.{text}
use Rattle.auction_input.specs.Input.{input_of}
use Rattle.answers.specs.Answer.{answer}
use Rattle.auction_input.specs.declared.request.Request.TheVariants.{Compile}

gamma_and_all : answer (Compile 1)
    (input_of
    (codes
    "%rules\nrules,1,1,,\ncategory,A,2,10,1\ncategory,B,1,5,1\nbidder,Alpha,9,2,\nbidder,Beta,9,1,\nbidder,Gamma,9,1,\n%form\nGamma,A,B\n12,0,1\n%groups\nGamma\n-\n")) ≡ Ok (codes "* program 1 Gamma\nNAME wdp\nROWS\n N OBJ\n L C1\n L C2\nCOLUMNS\nRHS\n RHS C1 2\n RHS C2 1\nENDATA\n* program 2 -\nNAME wdp\nROWS\n N OBJ\n L B3\n L C1\n L C2\nCOLUMNS\n M1 'MARKER' 'INTORG'\n X3_1 OBJ -12\n X3_1 B3 1\n X3_1 C2 1\n M2 'MARKER' 'INTEND'\nRHS\n RHS B3 1\n RHS C1 2\n RHS C2 1\nBOUNDS\n UP BND X3_1 1\nENDATA\n")
unfolding all_faults csv_on_literals field_at first_fault digits text
gamma_and_all = refl
