pub mod Auctions
pub mod FileTexts
pub mod InputTexts
pub mod Parts
pub mod Places
pub mod Submissions
pub mod ParsedTexts
pub mod Prices
