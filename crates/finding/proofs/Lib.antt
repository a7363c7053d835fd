mod ExactlyFound
