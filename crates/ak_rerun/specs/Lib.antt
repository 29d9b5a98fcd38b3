pub mod Reruns
