pub mod NoWalks
