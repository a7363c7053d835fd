pub mod Cliques
pub mod Mutual
