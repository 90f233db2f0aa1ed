pub mod TreeEvidence
