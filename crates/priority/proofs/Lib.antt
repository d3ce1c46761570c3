pub mod StatusParts
