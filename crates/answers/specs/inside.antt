pub mod ByAuction
pub mod Claiming
pub mod Forms
pub mod Judging
pub mod Proved
pub mod Runs
pub mod SolutionWinners
pub mod RuleHeld
